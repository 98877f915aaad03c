-- Texts of numbers with a sign.
-- Assumes nothing.
use Rattle.std.proofs.Common.{◌≡◌, ℕ, suc, ◌-◌, ◌^◌, ◌<◌, List, ◌∷◌, length, get_or, take, drop, ℤ, pos, negsuc, nat_abs, decimal, sym, refl, ap, ◌∙◌, subst, arith}
use lib.Signed.{mag}
use Rattle.std.specs.Fmt.{signed_decimal}
use Rattle.std.proofs.lemmas.Slice.{first_rest}
use Rattle.std.proofs.lemmas.Fmt.{decimal_injective, signed_decimal_injective}
use Rattle.lines.specs.Numeral.{Legible, Short, ShortZ, numeral}
use Rattle.lines.proofs.Fields.{OwnFields, Solid, solid_decimal, whole_field}
use Rattle.lines.proofs.Numbers.{short_text}

-- what follows a minus
abbrev pub tail : List ℕ → List ℕ
tail text = take (length text - 1) (drop 1 text)

minus_text : (text : List ℕ) → 0 < length text → get_or text 0 0 ≡ 45 → text ≡ 45 ∷ tail text
minus_text text some e = first_rest text 0 some ∙ ap (λ b. b ∷ tail text) e

minus_only : (rest : List ℕ) (z : ℤ) → Short (nat_abs z) → 45 ∷ rest ≡ signed_decimal z → (n : ℕ) × (z ≡ negsuc n) × (rest ≡ decimal (suc n))
minus_only rest (pos n) short e = absurd (omega (arith, (short_text (45 ∷ rest) n short e).3.0))
minus_only rest (negsuc n) short e = (n, refl, cc)

-- no number follows the minus
pub no_minus : (text : List ℕ) → 0 < length text → get_or text 0 0 ≡ 45 → ((n : ℕ) → 0 < n → Short n → tail text ≡ decimal n → ⊥) → (z : ℤ) → Short (nat_abs z) → text ≡ signed_decimal z → ⊥
no_minus text some minus none z short e =
    let m = minus_only (tail text) z short (sym (minus_text text some minus) ∙ e) in
    none (suc m.0) (omega arith) (subst (λ y. Short (nat_abs y)) m.1 short) m.2

pub not_zero : (rest : List ℕ) (m : ℕ) → m ≡ 0 → rest ≡ decimal m → (n : ℕ) → 0 < n → Short n → rest ≡ decimal n → ⊥
not_zero rest m zero-m e n some short f =
    omega (arith, decimal_injective m n (omega arith) (omega arith) (sym e ∙ f))

-- a number with a sign is a field of its own
pub solid_signed : (z : ℤ) → ShortZ z → Solid (signed_decimal z)
solid_signed (pos n) short = solid_decimal n short
solid_signed (negsuc n) short = (refl, solid_decimal (suc n) short)

pub some_signed : (z : ℤ) → ShortZ z → 0 < length (signed_decimal z)
some_signed (pos n) short = (short_text (decimal n) n short refl).0
some_signed (negsuc n) short = omega arith

pub small : (z : ℤ) → ShortZ z → mag z < 2 ^ 63
small (pos n) h = omega arith
small (negsuc n) h = omega arith

pub same_signed : (y z : ℤ) → ShortZ y → ShortZ z → signed_decimal y ≡ signed_decimal z → y ≡ z
same_signed y z p q = signed_decimal_injective y z (small y p) (small z q)

pub signed_token : OwnFields ShortZ signed_decimal
signed_token = record { text = λ z short. (some_signed z short, whole_field (signed_decimal z) (solid_signed z short)); same = same_signed }

-- the same of any values that are numbers
pub numeral_token : {A : Type 0} (value : A → ℤ) → ((a b : A) → value a ≡ value b → a ≡ b) → OwnFields (Legible value) (numeral value)
numeral_token value apart = record { text = λ a ok. signed_token.text (value a) ok; same = λ a b p q e. apart a b (signed_token.same (value a) (value b) p q e) }
