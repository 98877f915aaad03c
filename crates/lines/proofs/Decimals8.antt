-- The digits of a number with eight decimals.
-- Assumes nothing.
use Rattle.std.proofs.Common.{⊎_elim, ◌≡◌, ℕ, zero, suc, ◌+◌, ◌-◌, ◌*◌, ◌/◌, ◌%◌, ◌^◌, ◌<◌, false, List, [], ◌∷◌, ◌++◌, length, replicate, decimal, sym, refl, ap, ◌∙◌, append_assoc, append-nil, arith, div-one}
use Rattle.std.proofs.Math.Nat.{div-div-eq-div-mul, div-le_self}
use Rattle.std.proofs.lemmas.Fmt.{decimal_digit, decimal_step}
use Rattle.std.proofs.lemmas.Bool.{cases_lt}
use Rattle.std.proofs.lemmas.List.{length_push}
use native.Mathlib.Numerals.{unary_clauses}
use Rattle.std.specs.Fmt.{char_count, format_spec, padded_integral}
use Rattle.lines.specs.Fixed.{padded}

pow_suc : (k : ℕ) → 10 ^ suc k ≡ 10 * 10 ^ k
pow_suc k = simp unary_clauses (omega arith)

div_none : (d : ℕ) → 0 / d ≡ 0
div_none d = omega (arith, div-le_self 0 d)

-- the last digit of a padded number
padded_last : (k n : ℕ) → padded (suc k) n ≡ padded k (n / 10) ++ ((48 + n % 10) ∷ [])
padded_last zero n = ap (λ d. (48 + d % 10) ∷ []) (div-one n)
padded_last (suc k) n =
    let e : n / 10 ^ suc k ≡ n / 10 / 10 ^ k = ap (λ d. n / d) (pow_suc k) ∙ sym (div-div-eq-div-mul n 10 (10 ^ k)) in
    (λ i. (48 + e i % 10) ∷ padded_last k n i)

padded_zero : (k : ℕ) → padded k 0 ≡ replicate k 48
padded_zero zero = refl
padded_zero (suc k) = (λ i. (48 + div_none (10 ^ k) i % 10) ∷ padded_zero k i)

zeros_one : (k m : ℕ) → m < 10 → replicate (suc k - length (decimal m)) 48 ++ decimal m ≡ padded (suc k) m
zeros_one k m one =
    let none : m / 10 ≡ 0 = omega arith in
    let last : m % 10 ≡ m = omega arith in
    let count : suc k - length ((48 + m) ∷ []) ≡ k = omega arith in
    rw (decimal_digit m one, padded_last k m, none, last, padded_zero k, count)

-- zeros before a number of at most suc k digits
zeros : (k m : ℕ) → m < 10 ^ suc k → m < 2 ^ 64 → replicate (suc k - length (decimal m)) 48 ++ decimal m ≡ padded (suc k) m
zeros zero m small fits = zeros_one 0 m (omega arith)
zeros (suc k) m small fits = ⊎_elim (zeros_one (suc k) m) (λ more.
    let less : m / 10 < 10 ^ suc k = omega (arith, pow_suc (suc k)) in
    let step = decimal_step m more fits in
    let long : length (decimal m) ≡ length (decimal (m / 10)) + 1 = ap length step ∙ length_push (decimal (m / 10)) (48 + m % 10) in
    let rest = zeros k (m / 10) less (omega arith) in
    let count : suc (suc k) - length (decimal m) ≡ suc k - length (decimal (m / 10)) = omega arith in
    (λ i. replicate (count i) 48 ++ step i)
    ∙ sym (append_assoc (replicate (suc k - length (decimal (m / 10))) 48) (decimal (m / 10)) ((48 + m % 10) ∷ []))
    ∙ ap (λ l. l ++ ((48 + m % 10) ∷ [])) rest ∙ sym (padded_last (suc k) m)) (cases_lt m 10)

eight_wide : (ds : List ℕ) → padded_integral (format_spec 32 0 4 8 (2 ^ 64 - 1)) false [] ds ≡ replicate (8 - length ds) 48 ++ ds
unfolding padded_integral char_count
eight_wide ds = let count : 8 - length ds - 0 - 0 ≡ 8 - length ds = omega arith in (λ i. replicate (count i) 48 ++ append-nil ds i)

-- the digits above the last eight play no part
padded_rest : (n : ℕ) → padded 8 (n % 100000000) ≡ padded 8 n
padded_rest n =
    let m = n % 100000000 in
    let a : m / 10000000 % 10 ≡ n / 10000000 % 10 = omega arith in
    let b : m / 1000000 % 10 ≡ n / 1000000 % 10 = omega arith in
    let c : m / 100000 % 10 ≡ n / 100000 % 10 = omega arith in
    let d : m / 10000 % 10 ≡ n / 10000 % 10 = omega arith in
    let e : m / 1000 % 10 ≡ n / 1000 % 10 = omega arith in
    let f : m / 100 % 10 ≡ n / 100 % 10 = omega arith in
    let g : m / 10 % 10 ≡ n / 10 % 10 = omega arith in
    let h : m / 1 % 10 ≡ n / 1 % 10 = omega arith in
    rw (a, b, c, d, e, f, g, h)

pub shown_decimals : (n : ℕ) → padded_integral (format_spec 32 0 4 8 (2 ^ 64 - 1)) false [] (decimal (n % 100000000)) ≡ padded 8 n
shown_decimals n = eight_wide (decimal (n % 100000000)) ∙ zeros 7 (n % 100000000) (omega arith) (omega arith) ∙ padded_rest n
