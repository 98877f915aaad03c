-- How the values of an effect type are written as numbers.
use Rattle.std.specs.Prelude.{◌≡◌, ℕ, List, length, ℤ, Some, None, Option}

pub record Notation (V : Type 0) : Type 0 where
  -- how many numbers write a value
  pub count : ℕ
  -- the value that some numbers write
  pub value : List ℤ → V
  -- the numbers of a value
  pub numbers : V → List ℤ

-- making a value of its numbers and giving them back are mutual inverses
pub record NotationLaws {V : Type 0} (w : Notation V) : Type 0 where
  pub numbers_count : (a : V) → length (w.numbers a) ≡ w.count
  pub value_numbers : (a : V) → w.value (w.numbers a) ≡ a
  pub numbers_value : (zs : List ℤ) → length zs ≡ w.count → w.numbers (w.value zs) ≡ zs

-- the value that the numbers write, or there are more or fewer than write a value
abbrev pub Reads : {V : Type 0} → Notation V → List ℤ → Option V → Type 0
Reads w zs (Some a) = w.numbers a ≡ zs
Reads w zs None = length zs ≡ w.count → ⊥
