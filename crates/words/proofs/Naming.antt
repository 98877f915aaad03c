-- No two cases have one word, so a text that is the word of a case names that case alone.
-- Assumes nothing.
use Rattle.std.proofs.Common.{◌≡◌, ℕ, List, Some, sym, ap, ◌∙◌}
use Rattle.words.specs.Words.{Named, Words}

pub named : {A : Type 0} (word : A → List ℕ) → Words word → (text : List ℕ) (a : A) → text ≡ word a → Named word text (Some a)
named word laws text a e b =
    (λ (q : Some a ≡ Some b). let same : a ≡ b = cc in e ∙ ap word same, λ d. ap Some (laws.distinct a b (sym e ∙ d)))
