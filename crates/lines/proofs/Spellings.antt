-- Values that are each written as one field.
-- Assumes nothing.
use Rattle.std.proofs.Common.{◌≡◌, ℕ, Bool, true, false, List, ◌++◌, Some, None, Option, sym, refl, ap, ◌∙◌, subst, arith}
use Rattle.lines.specs.Lexing.{rest}
use Rattle.lines.specs.Lines.{newlines}
use Rattle.lines.specs.Numeral.{Spelt}
use Rattle.lines.specs.Reading.{Ends, FieldText, Reads, blank_if, itself, led}
use Rattle.lines.specs.declared.token.Tokens.{Tokens}
use Rattle.lines.proofs.Cuts.{newlines_append}
use Rattle.lines.proofs.Fields.{OwnFields, Solid, newlines_solid, solid_field}
use Rattle.lines.proofs.Readings.{led_one_way}
use Rattle.lines.proofs.Sequences.{Form}

-- a valid value is what a table knows and what is written as a field; no two are written alike
pub record Spelling {A : Type 0} (known valid : A → Type 0) (written : A → List ℕ) : Type 0 where
  pub knows : (a : A) → valid a → known a
  pub text : (a : A) → valid a → FieldText (written a)
  pub valid_from : (a : A) → known a → FieldText (written a) → valid a
  pub same : (a b : A) → valid a → valid b → written a ≡ written b → a ≡ b

newlines_blank : (b : Bool) (t : List ℕ) → newlines (blank_if b t) ≡ newlines t
newlines_blank true t = omega arith
newlines_blank false t = refl

module _ {A : Type 0} {known valid : A → Type 0} {written : A → List ℕ} (q : Spelling known valid written) where
  solid : (a : A) → valid a → Solid (written a)
  solid a ok = solid_field (written a) (q.text a ok).1

  -- a field's text was read, and the table says what it spells; or no field was read
  pub spelt : (b : Bool) (s u : Tokens) (x : List ℕ) (r : Option A) → Reads FieldText (led b itself) Ends s (Some x) u → Spelt known written x r → Reads valid (led b written) Ends s r u
  spelt b s u x (Some a) got h = (
    q.valid_from a h.0 (subst FieldText h.1 got.0),
    got.1 ∙ ap (λ l. blank_if b (l ++ rest u)) h.1,
    got.2,
    got.3,
  )
  spelt b s u x None got h = (
    (λ a t ok ends e. h a (q.knows a ok) (led_one_way b x (written a) (rest u) t (solid_field x got.0.1) (solid a ok) got.2 ends (sym got.1 ∙ e)).0),
    got.3,
  )

  pub no_text : (b : Bool) (s u : Tokens) → Reads FieldText (led b itself) Ends s None u → Reads valid (led b written) Ends s None u
  no_text b s u none = ((λ a t ok ends e. none.0 (written a) t (q.text a ok) ends e), none.1)

  pub field_form : (b : Bool) → Form 0 valid (led b written) Ends
  field_form b = record {
    splits = λ x y t u vx vy et eu e.
        let one = led_one_way b (written x) (written y) t u (solid x vx) (solid y vy) et eu e in
        (q.same x y vx vy one.0, one.1);
    lines = λ x t ok. omega (arith, newlines_blank b (written x ++ t), newlines_append (written x) t, newlines_solid (written x) (solid x ok));
  }

-- values that are fields of their own
pub token_spelling : {A : Type 0} {valid : A → Type 0} {written : A → List ℕ} → OwnFields valid written → Spelling valid valid written
token_spelling own = record { knows = λ a ok. ok; text = own.text; valid_from = λ a ok text. ok; same = own.same }
