-- Words for the cases of an enum.
use Rattle.std.specs.Prelude.{◌≡◌, ℕ, ◌<◌, List, length, Some, Option}
use Rattle.std.specs.List.{AllByRecursion}

-- the answer is a case exactly where the text is its word
abbrev pub Named : {A : Type 0} → (A → List ℕ) → List ℕ → Option A → Type 0
Named {A} word text r = (a : A) → (r ≡ Some a → text ≡ word a) × (text ≡ word a → r ≡ Some a)

pub record Words {A : Type 0} (word : A → List ℕ) : Type 0 where
  -- a word has at least one byte, and each of its bytes is above the blank
  pub some : (a : A) → 0 < length (word a)
  pub plain : (a : A) → AllByRecursion (λ b. 32 < b) (word a)
  -- no two cases have one word
  pub distinct : (a b : A) → word a ≡ word b → a ≡ b
