-- Texts of digits and the numbers that they write.
use Rattle.std.proofs.Common.{eq-eqb, ne_eqb, eqb, false, true, ◌||◌, ◌≢◌, ◌≡◌, ℕ, zero, suc, ◌+◌, ◌*◌, ◌^◌, ◌<◌, ◌≤◌, List, [], ◌∷◌, length, get_or, take, Some, None, Option, MatchOption, decimal, sym, refl, ap, ◌∙◌, subst, arith}
use borrow.Author.Tests.{clash}
use Rattle.std.specs.Char.{digit_value}
use Rattle.std.specs.Str.Parse.{AllDigits, digits_value}
use Rattle.std.proofs.lemmas.Int.Digits.{digits_value_more, digits_more}
use Rattle.std.proofs.lemmas.List.{length-take-le}
use Rattle.std.proofs.lemmas.Str.{digit_value_digit}
use Rattle.std.proofs.lemmas.Str.Parse.{IsNumeralModel, digit_at, digit_from_value, numerals_by_value, tells_digits, digits_value_short}
use Rattle.std.proofs.lemmas.Fmt.{decimal_digit, decimal-digits_value, decimal_nonempty, length-decimal-le, first_decimal, digits_decimal}
use Rattle.lines.specs.Numeral.{Short, Spelt, starts_loosely}

own : IsNumeralModel (AllDigits 10) (digits_value 10)
own = numerals_by_value (AllDigits 10) tells_digits

-- fewer than ten digits
pub below : (text : List ℕ) (i n : ℕ) → length text ≤ 10 → i < length text → AllDigits 10 (take i text) → n ≡ digits_value 10 (take i text) → n < 10 ^ 9
below text i n long here ds e =
    let short : length (take i text) ≤ 9 = omega (arith, length-take-le i text (omega arith)) in
    omega (arith, e, digits_value_short own (take i text) 9 ds short)

-- one digit more
pub digit_more : (text : List ℕ) (i n : ℕ) → i < length text → AllDigits 10 (take i text) → n ≡ digits_value 10 (take i text) → digit_value (get_or text i 0) < 10
    → AllDigits 10 (take (i + 1) text) × (n * 10 + digit_value (get_or text i 0) ≡ digits_value 10 (take (i + 1) text))
digit_more text i n here ds e digit = (digits_more 10 text i here ds digit, (λ j. e j * 10 + digit_value (get_or text i 0)) ∙ sym (digits_value_more 10 text i here))

-- one byte that is none
pub no_digit : (text : List ℕ) (i : ℕ) → i < length text → (digit_value (get_or text i 0) < 10 → ⊥) → AllDigits 10 text → ⊥
no_digit text i here other ds = let d = digit_at text i ds here in other (omega (arith, digit_value_digit (get_or text i 0) d))

-- the text of a number of at most ten digits
pub short_text : (text : List ℕ) (n : ℕ) → Short n → text ≡ decimal n → (0 < length text) × (length text ≤ 10) × (1 < length text → 48 < get_or text 0 0) × AllDigits 10 text
short_text text n short e = (
  subst (λ l. 0 < length l) (sym e) (decimal_nonempty n (omega arith)),
  subst (λ l. length l ≤ 10) (sym e) (length-decimal-le 10 n (omega arith) short (omega arith)),
  subst (λ l. 1 < length l → 48 < get_or l 0 0) (sym e) (lead n short),
  subst (AllDigits 10) (sym e) (digits_decimal own n (omega arith)),
)
  where
    lead : (n : ℕ) → Short n → 1 < length (decimal n) → 48 < get_or (decimal n) 0 0
    lead zero short more = absurd (omega (arith, ap length (decimal_digit 0 (omega arith))))
    lead (suc n) short more = first_decimal (suc n) (omega arith) (omega arith)

loose_plus : (text : List ℕ) → starts_loosely text ≡ false → get_or text 0 0 ≢ 43
loose_plus [] e = λ h. omega arith
loose_plus (b ∷ []) e = λ h. clash (sym e ∙ eq-eqb b 43 h)
loose_plus (b ∷ (c ∷ bs)) e = λ h. clash (sym e ∙ (λ i. eq-eqb b 43 h i || eqb b 48))

loose_zero : (text : List ℕ) → starts_loosely text ≡ false → 1 < length text → get_or text 0 0 ≢ 48
loose_zero [] e more = λ h. omega arith
loose_zero (b ∷ []) e more = λ h. omega arith
loose_zero (b ∷ (c ∷ bs)) e more = λ h. clash (sym e ∙ (λ i. ne_eqb b 43 (λ k. omega arith) i || eq-eqb b 48 h i))

loose_none : (b : ℕ) (bs : List ℕ) → 48 ≤ b → (0 < length bs → 48 < b) → starts_loosely (b ∷ bs) ≡ false
loose_none b [] low lead = ne_eqb b 43 (λ k. omega arith)
loose_none b (c ∷ bs) low lead = (λ i. ne_eqb b 43 (λ k. omega arith) i || ne_eqb b 48 (λ k. omega (arith, lead (omega arith))) i)

-- a text that starts so writes no number
pub loose_text : (text : List ℕ) → starts_loosely text ≡ true → Spelt Short decimal text None
loose_text [] e = absurd (clash e)
loose_text (b ∷ bs) e = λ n short same.
    let own = short_text (b ∷ bs) n short same in
    let d = digit_from_value b own.3.0 in
    clash (sym (loose_none b bs d.0 (λ more. own.2 (omega arith))) ∙ e)

pub long_text : (text : List ℕ) → 10 < length text → Spelt Short decimal text None
long_text text long = λ n short same. omega (arith, (short_text text n short same).1)

one_byte : (text : List ℕ) → 0 < length text → (1 < length text → ⊥) → length text ≡ 1
one_byte [] some one = absurd (omega arith)
one_byte (b ∷ []) some one = refl
one_byte (b ∷ (c ∷ text)) some one = absurd (one (omega arith))

-- what is made of the digits of a text of one to ten bytes that does not start so
pub is_number : (text : List ℕ) (r : Option ℕ) → starts_loosely text ≡ false → 0 < length text → length text ≤ 10
    → MatchOption r (AllDigits 10 text → ⊥) (λ n. AllDigits 10 text × (n ≡ digits_value 10 text)) → Spelt Short decimal text r
is_number text (Some n) tight some few h =
    let small = digits_value_short own text 10 h.0 few in
    (omega (arith, h.1), sym (ap decimal h.1 ∙ decimal-digits_value own text h.0 some (λ zero. one_byte text some (λ more. loose_zero text tight more zero)) (omega arith)))
is_number text None tight some few h = λ n short same. h (short_text text n short same).3

pub empty_text : (text : List ℕ) → length text ≡ 0 → Spelt Short decimal text None
empty_text text none = λ n short same. omega (arith, none, (short_text text n short same).0)
