-- Which line the cursor stands in after something was read.
use Rattle.std.proofs.Common.{◌≡◌, ℕ, ◌+◌, List, [], ◌∷◌, sym, refl, ap, ◌∙◌, arith, take-append-drop}
use Rattle.std.specs.List.{AllByRecursion}
use Rattle.lines.specs.Lexing.{SameText, line_at, read, rest}
use Rattle.lines.specs.Lines.{newlines}
use Rattle.lines.specs.Reading.{spaced, fields_of}
use Rattle.lines.specs.declared.token.Tokens.{Tokens}
use Rattle.lines.proofs.Cuts.{newlines_append}
use Rattle.lines.proofs.Fields.{OwnFields, newlines_solid, solid_own}

both_sides : (s : Tokens) → newlines s.text.now ≡ newlines (read s) + newlines (rest s)
both_sides s = ap newlines (sym (take-append-drop s.at s.text.now)) ∙ newlines_append (read s) (rest s)

-- from s to u there are k line ends
pub lines_passed : (s u : Tokens) (k : ℕ) → newlines (rest s) ≡ k + newlines (rest u) → SameText s u → line_at u ≡ line_at s + k
lines_passed s u k ends same = omega (arith, ends, both_sides s, both_sides u, ap newlines same)

-- fields have no line end in them
module _ {A : Type 0} {valid : A → Type 0} {written : A → List ℕ} (own : OwnFields valid written) where
  pub newlines_spaced : (xs : List A) (t : List ℕ) → AllByRecursion valid xs → newlines (spaced written xs t) ≡ newlines t
  newlines_spaced [] t ok = refl
  newlines_spaced (x ∷ xs) t ok =
      omega (arith, newlines_append (written x) (spaced written xs t), newlines_solid (written x) (solid_own own x ok.0), newlines_spaced xs t ok.1)

  pub newlines_fields : (xs : List A) (t : List ℕ) → AllByRecursion valid xs → newlines (fields_of written xs t) ≡ newlines t
  newlines_fields [] t ok = refl
  newlines_fields (x ∷ xs) t ok =
      omega (arith, newlines_append (written x) (spaced written xs t), newlines_solid (written x) (solid_own own x ok.0), newlines_spaced xs t ok.1)
