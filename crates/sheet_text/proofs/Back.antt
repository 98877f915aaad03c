-- A text that is read is what is written of its records.
-- Assumes nothing.
use Rattle.std.proofs.Common.{◌≡◌, ℕ, List, [], ◌∷◌, ◌++◌, map, Ok, sym, refl, ap, ◌∙◌, subst, append_assoc, append-nil}
use Rattle.std.specs.List.{AllByRecursion}
use Rattle.effect.specs.Laws.{Operations}
use Rattle.effect.specs.Notations.{Notation}
use Rattle.loads.specs.declared.kinds.Kind.{Kind}
use Rattle.loads.specs.declared.records.Record.{Record}
use Rattle.loads.specs.Letters.{letter_of}
use Rattle.sheet.specs.Ledger.{record_of}
use Rattle.sheet.specs.declared.changes.Entry.{Entry}
use Rattle.sheet.proofs.Causes.{same_kind}
use Rattle.sheet_lines.specs.Bodies.{LegibleBody, body_line, body_lines}
use Rattle.sheet_lines.specs.Heading.{counts_line}
use Rattle.sheet_text.specs.Texts.{Bodies, SheetText, TextOf, counted, entered, finished}

-- the records that some lines add
record Added {E : Type 0} (w : Notation E) (b : List (Record E)) (kinds : List Kind) (text : List ℕ) (c : List (Record E)) : Type 0 where
  new : List (Record E)
  held : c ≡ b ++ new
  legible : AllByRecursion (λ r. LegibleBody w (r.number, r.load)) new
  of_kinds : map (λ r. r.kind) new ≡ kinds
  lines : text ≡ body_lines w new

module _ {E : Type 0} (o : Operations E) (w : Notation E) (p : ℕ) where
  added : {b : List (Record E)} {k : ℕ} {kinds : List Kind} {text : List ℕ} {c : List (Record E)} → Bodies o w p b k kinds text (Ok c) → Added w b kinds text c
  added {b = b} (finished none) = record { new = []; held = sym (append-nil b); legible = tt; of_kinds = refl; lines = none }
  added {b = b} {c = c} (entered {kind = kind} {kinds = kinds} x after b' legible line ok made more) =
      let rest = added more in
      let entry : Entry E = record { number = x.0; letter = letter_of kind; load = x.1 } in
      let first = record_of entry kind in
      let is : b' ≡ b ++ first ∷ [] = made.2 ∙ ap (λ j. b ++ record_of entry j ∷ []) (same_kind _ made.0 kind made.1 refl) in
      record {
        new = first ∷ rest.new;
        held = rest.held ∙ ap (λ l. l ++ rest.new) is ∙ append_assoc b (first ∷ []) rest.new;
        legible = (legible, rest.legible);
        of_kinds = ap (λ l. kind ∷ l) rest.of_kinds;
        lines = line ∙ ap (body_line w x) rest.lines;
      }

  pub text_of : {k : ℕ} {text : List ℕ} {c : List (Record E)} → SheetText o w p k text (Ok c) → TextOf w text c
  text_of {c = c} (counted counts after few line more) =
      let all = added more in
      let same : all.new ≡ c = sym all.held in
      record {
        counts = counts;
        few = few;
        legible = subst (AllByRecursion (λ r. LegibleBody w (r.number, r.load))) same all.legible;
        kinds = ap (map (λ r. r.kind)) (sym same) ∙ all.of_kinds;
        whole = line ∙ ap (counts_line counts) (all.lines ∙ ap (body_lines w) same);
      }
