-- One thing only comes of a text.
-- Assumes nothing.
use Rattle.std.proofs.Common.{◌≡◌, ℕ, ◌+◌, List, [], ◌∷◌, ◌++◌, length, Err, Result, sym, refl, ap, ◌∙◌, subst, ⊎_elim, arith}
use Rattle.std.proofs.lemmas.Bool.{cases_lt}
use Rattle.effect.specs.Laws.{Operations}
use Rattle.effect.specs.Notations.{Notation, NotationLaws}
use Rattle.refusals.specs.Numbers.{number_of}
use Rattle.refusals.specs.declared.Refusal.{Refusal}
use Rattle.loads.specs.declared.kinds.Kind.{Kind}
use Rattle.loads.specs.declared.records.Load.{Load}
use Rattle.loads.specs.declared.records.Record.{Record}
use Rattle.loads.specs.Letters.{letter_of}
use Rattle.sheet.specs.Ledger.{Changed, Due, Refuses, record_of}
use Rattle.sheet.proofs.Causes.{same_kind, same_refusal}
use Rattle.sheet_lines.specs.Bodies.{LegibleBody, body_line}
use Rattle.sheet_lines.specs.Heading.{due}
use Rattle.sheet_lines.specs.declared.fault.TextFault.{TextFault}
use Rattle.sheet_lines.proofs.BodyForm.{body_form}
use Rattle.sheet_lines.proofs.HeadingForm.{counts_line_lem, names_line_lem}
use Rattle.sheet_text.specs.Texts.{Bodies, SheetText, WholeText, barred, counted, entered, entry_of, finished, malformed, named, no_counts, no_names, refused, surplus, too_long}

-- of the causes that hold, one only has the smallest number
due_once : (C : Refusal → Type 0) (e f : Refusal) → Due C e → Due C f → e ≡ f
due_once C e f p q =
    ⊎_elim (λ less. absurd (q.1 e less p.0))
    (λ le. ⊎_elim (λ less. absurd (p.1 f less q.0)) (λ ge. same_refusal e f (omega arith)) (cases_lt (number_of f) (number_of e)))
    (cases_lt (number_of e) (number_of f))

module _ {E : Type 0} (o : Operations E) (w : Notation E) (laws : NotationLaws w) (p : ℕ) where
  -- two bodies at the start of one text are the same, and leave the same
  one_body : {text : List ℕ} (x y : ℕ × Load E) (t u : List ℕ) → LegibleBody w x → LegibleBody w y → text ≡ body_line w x t → text ≡ body_line w y u → (x ≡ y) × (t ≡ u)
  one_body x y t u lx ly p q = (body_form w laws).splits x y t u lx ly tt tt (sym p ∙ q)

  entered_once : (kind : Kind) (x : ℕ × Load E) (b m d : List (Record E)) → Changed b (entry_of kind x) m → Changed b (entry_of kind x) d → m ≡ d
  entered_once kind x b m d h k = h.2 ∙ ap (λ j. b ++ record_of (record { number = x.0; letter = letter_of kind; load = x.1 }) j ∷ []) (same_kind _ h.0 k.0 h.1 k.1) ∙ sym k.2

  pub bodies_once : {b : List (Record E)} {k : ℕ} {kinds : List Kind} {text : List ℕ} {r q : Result (List (Record E)) TextFault} → Bodies o w p b k kinds text r → Bodies o w p b k kinds text q → q ≡ r
  bodies_once (finished e) (finished f) = refl
  bodies_once (finished e) (surplus f) = absurd (omega (arith, ap length e))
  bodies_once (surplus e) (finished f) = absurd (omega (arith, ap length f))
  bodies_once (surplus e) (surplus f) = refl
  bodies_once (malformed none) (malformed none') = refl
  bodies_once (malformed none) (refused y u f ly cut bars) = absurd (none y u ly cut)
  bodies_once (malformed none) (entered y u d ly cut ok made more) = absurd (none y u ly cut)
  bodies_once (refused x t e lx cut bars) (malformed none) = absurd (none x t lx cut)
  bodies_once {b = b} {k = k} (refused {kind = kind} x t e lx cut bars) (refused y u f ly cut' bars') =
      let same = one_body x y t u lx ly cut cut' in
      let bars'' = subst (λ z. Refuses o p b (entry_of kind z) e) same.0 bars in
      ap (λ a. Err (barred a k)) (due_once _ f e bars' bars'')
  bodies_once {b = b} (refused {kind = kind} x t e lx cut bars) (entered y u d ly cut' ok made more) =
      let same = one_body x y t u lx ly cut cut' in
      absurd (ok e (subst (λ z. Refuses o p b (entry_of kind z) e) same.0 bars).0)
  bodies_once (entered x t c lx cut ok made more) (malformed none) = absurd (none x t lx cut)
  bodies_once {b = b} (entered {kind = kind} x t c lx cut ok made more) (refused y u f ly cut' bars) =
      let same = one_body x y t u lx ly cut cut' in
      absurd (ok f (subst (λ z. Refuses o p b (entry_of kind z) f) (sym same.0) bars).0)
  bodies_once {b = b} {k = k} {q = q} (entered {kind = kind} {kinds = kinds} x t c lx cut ok made more) (entered y u d ly cut' ok' made' more') =
      let same = one_body x y t u lx ly cut cut' in
      let one = entered_once kind x b d c (subst (λ z. Changed b (entry_of kind z) d) (sym same.0) made') made in
      bodies_once more (subst (λ m. Bodies o w p m (k + 1) kinds t q) one (subst (λ l. Bodies o w p d (k + 1) kinds l q) (sym same.1) more'))

  pub text_once : {k : ℕ} {text : List ℕ} {r q : Result (List (Record E)) TextFault} → SheetText o w p k text r → SheetText o w p k text q → q ≡ r
  text_once (no_counts none) (no_counts none') = refl
  text_once (no_counts none) (counted d u ld cut more) = absurd (none d u ld cut)
  text_once (counted c t lc cut more) (no_counts none) = absurd (none c t lc cut)
  text_once {k = k} {q = q} (counted c t lc cut more) (counted d u ld cut' more') =
      let same = counts_line_lem.splits c d t u lc ld tt tt (sym cut ∙ cut') in
      bodies_once more (subst (λ x. Bodies o w p [] (k + 1) (due x) t q) (sym same.0) (subst (λ l. Bodies o w p [] (k + 1) (due d) l q) (sym same.1) more'))

  pub whole_once : {text : List ℕ} {r q : Result (List (Record E)) TextFault} → WholeText o w p text r → WholeText o w p text q → q ≡ r
  whole_once (too_long long) (too_long long') = refl
  whole_once (too_long long) (no_names none) = refl
  whole_once (too_long long) (named y u few cut more) = absurd (omega arith)
  whole_once (no_names none) (too_long long) = refl
  whole_once (no_names none) (no_names none') = refl
  whole_once (no_names none) (named y u few cut more) = absurd (none y u tt cut)
  whole_once (named x t few cut more) (too_long long) = absurd (omega arith)
  whole_once (named x t few cut more) (no_names none) = absurd (none x t tt cut)
  whole_once {q = q} (named x t few cut more) (named y u few' cut' more') =
      let same = names_line_lem.splits x y t u tt tt tt tt (sym cut ∙ cut') in
      text_once more (subst (λ l. SheetText o w p 2 l q) (sym same.1) more')
