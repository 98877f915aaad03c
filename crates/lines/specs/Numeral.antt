-- Which texts are numbers: what `decimal` and `signed_decimal` write, of at most ten digits.
use Rattle.std.specs.Prelude.{◌≡◌, ℕ, ◌^◌, ◌<◌, Bool, false, ◌||◌, ◌==◌, List, [], ◌∷◌, ℤ, Some, None, Option, ◌≢◌, unsigned_abs}
use Rattle.std.specs.Fmt.{signed_decimal}

-- a plus stands first, or a 0 before another byte
abbrev pub starts_loosely : List ℕ → Bool
starts_loosely [] = false
starts_loosely (b ∷ []) = b == 43
starts_loosely (b ∷ (c ∷ bs)) = b == 43 || b == 48

-- of at most ten digits
abbrev pub Short : ℕ → Type 0
Short n = n < 10 ^ 10

abbrev pub ShortZ : ℤ → Type 0
ShortZ z = Short (unsigned_abs z)

-- text is what is written of a valid value, which is the answer; or of none
abbrev pub Spelt : {A : Type 0} → (A → Type 0) → (A → List ℕ) → List ℕ → Option A → Type 0
Spelt valid written text (Some a) = valid a × (text ≡ written a)
Spelt {A} valid written text None = (a : A) → valid a → text ≢ written a

-- a value that is a number, and what is written of that
abbrev pub Legible : {A : Type 0} → (A → ℤ) → A → Type 0
Legible value a = ShortZ (value a)

abbrev pub numeral : {A : Type 0} → (A → ℤ) → A → List ℕ
numeral value a = signed_decimal (value a)
