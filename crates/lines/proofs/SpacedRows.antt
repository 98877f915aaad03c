-- Rows of values that are each written as a field after one blank.
-- Assumes nothing.
use Rattle.std.proofs.Common.{◌≡◌, ℕ, ◌+◌, ◌<◌, true, List, [], ◌∷◌, length, take, set, Some, None, Option, ltb, lt-ltb, sym, refl, ap, ◌∙◌, subst, arith, length-set}
use Rattle.std.proofs.ByRecursion.{All-push}
use Rattle.std.proofs.lemmas.List.{take_more_set, length-take-le}
use Rattle.std.specs.List.{AllByRecursion}
use Rattle.lines.specs.Lexing.{SameText, rest}
use Rattle.lines.specs.Reading.{Ends, EndsAfter, Row, Reads, led, spaced}
use Rattle.lines.specs.declared.token.Tokens.{Tokens}
use Rattle.lines.proofs.Fields.{OwnFields}
use Rattle.lines.proofs.LineCount.{newlines_spaced}
use Rattle.lines.proofs.Rows.{no_row, same_row, spaced_push}
use Rattle.lines.proofs.Sequences.{Form}

-- two rows in one text, where nothing need end an empty one
module _ {A : Type 0} {valid : A → Type 0} {written : A → List ℕ} (own : OwnFields valid written) where
  same_spaced : (n : ℕ) (xs ms : List A) (r t : List ℕ) → Row valid n xs → Row valid n ms → EndsAfter n r → EndsAfter n t → spaced written xs r ≡ spaced written ms t → (xs ≡ ms) × (r ≡ t)
  same_spaced n [] [] r t vx vm er et e = (refl, e)
  same_spaced n [] (m ∷ ms) r t vx vm er et e = absurd (omega (arith, vx.0, vm.0))
  same_spaced n (x ∷ xs) ms r t vx vm er et e =
      let some : 0 < n = omega (arith, vx.0) in
      same_row own (x ∷ xs) ms r t vx.1 vm.1 (vx.0 ∙ sym vm.0) (λ h. er some) (et some) e

  pub row_form : (n : ℕ) → Form 0 (Row valid n) (spaced written) (EndsAfter n)
  row_form n = record {
    splits = λ xs ms r t vx vm er et e. same_spaced n xs ms r t vx vm er et e;
    lines = λ xs t ok. newlines_spaced own xs t ok.1 ∙ omega arith;
  }

-- a number that is not the first of its line stands after a blank
pub after_blank : {A : Type 0} (valid : A → Type 0) (written : A → List ℕ) (i : ℕ) (s u : Tokens) (r : Option A) → Reads valid (led (ltb 0 (i + 1)) written) Ends s r u → Reads valid (led true written) Ends s r u
after_blank valid written i s u r got = subst (λ b. Reads valid (led b written) Ends s r u) (lt-ltb 0 (i + 1) (omega arith)) got

-- i of n values are read into out, from s to u
pub record SpacedSofar {A : Type 0} (valid : A → Type 0) (written : A → List ℕ) (n i : ℕ) (out : List A) (s u : Tokens) : Type 0 where
  pub size : length out ≡ n
  pub row : AllByRecursion valid (take i out)
  pub cut : rest s ≡ spaced written (take i out) (rest u)
  pub stops : 0 < i → Ends (rest u)
  pub text : SameText s u

module _ {A : Type 0} {valid : A → Type 0} {written : A → List ℕ} {n i : ℕ} {out : List A} {s u : Tokens} (h : SpacedSofar valid written n i out s u) where
  pub spaced_more : (v : Tokens) (a : A) → i < n → Reads valid (led true written) Ends u (Some a) v → SpacedSofar valid written n (i + 1) (set out i a) s v
  spaced_more v a more got =
      let push = take_more_set out i a (omega (arith, h.size)) in
      record {
        size = length-set out i a ∙ h.size;
        row = subst (AllByRecursion valid) (sym push) (All-push valid (take i out) a h.row got.0);
        cut = h.cut ∙ ap (spaced written (take i out)) got.1 ∙ sym (spaced_push written (take i out) a (rest v)) ∙ ap (λ l. spaced written l (rest v)) (sym push);
        stops = λ _. got.2;
        text = got.3 ∙ h.text;
      }

  -- no value follows, or all are read
  pub spaced_short : OwnFields valid written → (v : Tokens) → i < n → Reads valid (led true written) Ends u None v → Reads (Row valid n) (spaced written) (EndsAfter n) s None v
  spaced_short own v more none = (
    (λ ms t row ends e.
        let long = length-take-le i out (omega (arith, h.size)) in
        no_row own (take i out) ms (rest u) t h.row row.1 (omega (arith, row.0)) (λ some. h.stops (omega arith)) (ends (omega arith)) (sym h.cut ∙ e)
        (λ a w ok ends' cut. none.0 a w ok ends' cut)),
    none.1 ∙ h.text,
  )
