-- A reader that takes only some of the values that another reads.
-- Assumes nothing.
use Rattle.std.proofs.Common.{◌≡◌, ℕ, Bool, true, false, List, Some, None, Option, MatchBool, MatchOption, sym, ◌∙◌, subst}
use Rattle.std.specs.Bool.{then_some}
use Rattle.lines.specs.Lexing.{rest}
use Rattle.lines.specs.Reading.{Reads}
use Rattle.lines.specs.declared.token.Tokens.{Tokens}
use Rattle.lines.proofs.Sequences.{Form}

module _ {A : Type 0} {k : ℕ} {valid few : A → Type 0} {written : A → List ℕ → List ℕ} {stops : List ℕ → Type 0} (f : Form k valid written stops) (within : (a : A) → few a → valid a) where
  pub narrowed_form : Form k few written stops
  narrowed_form = record { splits = λ a b t u va vb et eu e. f.splits a b t u (within a va) (within b vb) et eu e; lines = λ a t ok. f.lines a t (within a ok) }

  -- what was read is not taken, or it is
  pub not_taken : (s u : Tokens) (a : A) → (few a → ⊥) → Reads valid written stops s (Some a) u → Reads few written stops s None u
  not_taken s u a out got = (
    (λ b t ok ends e. out (subst few (f.splits b a t (rest u) (within b ok) got.0 ends got.2 (sym e ∙ got.1)).0 ok)),
    got.3,
  )

  pub taken : (s u : Tokens) (a : A) → few a → Reads valid written stops s (Some a) u → Reads few written stops s (Some a) u
  taken s u a ok got = (ok, got.1, got.2, got.3)

  pub filtered : (s u : Tokens) (r q : Option A) (Test : A → Bool → Type 0) → ((a : A) (b : Bool) → Test a b → MatchBool b (few a) (few a → ⊥)) → Reads valid written stops s r u → MatchOption r (q ≡ None) (λ a. (b : Bool) × Test a b × (q ≡ then_some b a)) → Reads few written stops s q u
  filtered s u None q Test says got none = subst (λ x. Reads few written stops s x u) (sym none) (λ b t ok ends e. got.0 b t (within b ok) ends e, got.1)
  filtered s u (Some a) q Test says got (true, test, is) = subst (λ x. Reads few written stops s x u) (sym is) (taken s u a (says a true test) got)
  filtered s u (Some a) q Test says got (false, test, is) = subst (λ x. Reads few written stops s x u) (sym is) (not_taken s u a (says a false test) got)
