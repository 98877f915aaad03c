-- A text without separators that is followed by one, or by nothing, is a field.
use Rattle.std.proofs.Common.{◌≡◌, ℕ, ◌+◌, Bool, true, false, cond, ◌||◌, eqb, List, [], ◌∷◌, ◌++◌, length, decimal, sym, refl, ap, ◌∙◌, subst, arith}
use mathlib.Core.List.{append_cancel_left}
use borrow.Author.Tests.{clash}
use Rattle.std.specs.Str.Parse.{AllDigits}
use Rattle.std.proofs.lemmas.Str.Parse.{digit_from_value}
use Rattle.lines.specs.Lines.{newlines, separates, field}
use Rattle.lines.specs.Numeral.{Short}
use Rattle.lines.specs.Reading.{Ends, FieldText}
use Rattle.lines.proofs.Cuts.{no_separator}
use Rattle.lines.proofs.Numbers.{short_text}

-- without separators
abbrev pub Solid : List ℕ → Type 0
Solid [] = Unit {0}
Solid (b ∷ bs) = (separates b ≡ false) × Solid bs

pub field_solid : (x t : List ℕ) → Solid x → Ends t → field (x ++ t) ≡ x
field_solid [] [] s e = refl
field_solid [] (b ∷ t) s e = ap (λ u. cond u [] (b ∷ field t)) e
field_solid (b ∷ x) t s e = ap (λ u. cond u [] (b ∷ field (x ++ t))) s.0 ∙ ap (λ l. b ∷ l) (field_solid x t s.1 e)

-- a text splits in one way only
pub one_way : (x y t u : List ℕ) → Solid x → Solid y → Ends t → Ends u → x ++ t ≡ y ++ u → (x ≡ y) × (t ≡ u)
one_way x y t u p q e f same =
    let front : x ≡ y = sym (field_solid x t p e) ∙ ap field same ∙ field_solid y u q f in
    (front, append_cancel_left y t u (ap (λ l. l ++ t) (sym front) ∙ same))

-- what follows the first field ends it
pub field_ends : (s r : List ℕ) → s ≡ field s ++ r → Ends r
field_ends [] r e = subst Ends e tt
field_ends (b ∷ bs) r e = go (separates b) refl e (field_ends bs r)
  where
    go : (t : Bool) → separates b ≡ t → b ∷ bs ≡ cond t [] (b ∷ field bs) ++ r → (bs ≡ field bs ++ r → Ends r) → Ends r
    go true p e h = subst Ends e p
    go false p e h = h (cc)

pub field_field : (s : List ℕ) → field (field s) ≡ field s
field_field [] = refl
field_field (b ∷ bs) = go (separates b) refl (field_field bs)
  where
    go : (t : Bool) → separates b ≡ t → field (field bs) ≡ field bs → field (cond t [] (b ∷ field bs)) ≡ cond t [] (b ∷ field bs)
    go true e h = refl
    go false e h = ap (λ t. cond t [] (b ∷ field (field bs))) e ∙ ap (λ l. b ∷ l) h

pub solid_field : (x : List ℕ) → field x ≡ x → Solid x
solid_field [] e = tt
solid_field (b ∷ x) e = go (separates b) refl e (solid_field x)
  where
    go : (t : Bool) → separates b ≡ t → cond t [] (b ∷ field x) ≡ b ∷ x → (field x ≡ x → Solid x) → Solid (b ∷ x)
    go true p e h = absurd (omega (arith, ap length e))
    go false p e h = (p, h (cc))

pub whole_field : (x : List ℕ) → Solid x → field x ≡ x
whole_field [] s = refl
whole_field (b ∷ x) s = ap (λ t. cond t [] (b ∷ field x)) s.0 ∙ ap (λ l. b ∷ l) (whole_field x s.1)

pub newlines_solid : (x : List ℕ) → Solid x → newlines x ≡ 0
newlines_solid [] s = refl
newlines_solid (b ∷ x) s = go (eqb b 32) (eqb b 10) s.0 (newlines_solid x s.1)
  where
    go : (t u : Bool) → (t || u) ≡ false → newlines x ≡ 0 → cond u 1 0 + newlines x ≡ 0
    go true u e h = absurd (clash (sym e))
    go false true e h = absurd (clash (sym e))
    go false false e h = omega arith

solid_digits : (x : List ℕ) → AllDigits 10 x → Solid x
solid_digits [] h = tt
solid_digits (b ∷ x) h =
    let d = digit_from_value b h.0 in
    (no_separator b (λ e. omega arith) (λ e. omega arith), solid_digits x h.1)

pub solid_decimal : (n : ℕ) → Short n → Solid (decimal n)
solid_decimal n short = solid_digits (decimal n) (short_text (decimal n) n short refl).3

-- each valid value is written as one field that is not empty, and no two alike
pub record OwnFields {A : Type 0} (valid : A → Type 0) (written : A → List ℕ) : Type 0 where
  pub text : (a : A) → valid a → FieldText (written a)
  pub same : (a b : A) → valid a → valid b → written a ≡ written b → a ≡ b

pub solid_own : {A : Type 0} {valid : A → Type 0} {written : A → List ℕ} → OwnFields valid written → (a : A) → valid a → Solid (written a)
solid_own {A} {valid} {written} own a ok = solid_field (written a) (own.text a ok).1
