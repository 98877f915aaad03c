-- The factor by which a floor load is reduced, in ten-thousandths. An area is in hundredths of a square metre.
use Rattle.std.specs.Prelude.{◌≡◌, ℕ, zero, suc, ◌+◌, ◌-◌, ◌*◌, ◌<◌, ◌≤◌, max, cond, ◌⊎◌, nat_le}
use Rattle.reduction.specs.declared.formula.Formula.{Formula}

-- r is the smallest number whose square is above x: that of the number before it is not
pub record RootAbove (x r : ℕ) : Type 0 where
  pub above : x < r * r
  pub below : (j : ℕ) → j + 1 ≡ r → j * j ≤ x

-- k is the smallest number for which k × k × share is at least bound
pub record Smallest (bound share k : ℕ) : Type 0 where
  pub enough : bound ≤ k * k * share
  pub least : (j : ℕ) → bound ≤ j * j * share → k ≤ j

-- the ranges of an area and of a number of storeys
pub record Sized (area storeys : ℕ) : Type 0 where
  pub area_low : 1 ≤ area
  pub area_high : area ≤ 1000000
  pub storeys_low : 1 ≤ storeys
  pub storeys_high : storeys ≤ 40

-- what a factor is answered for: class 0 asks nothing of area and storeys, and classes 1 and 2 ask that they are in range
abbrev pub InRange : (class area storeys : ℕ) → Type 0
InRange class area storeys = (class ≡ 0) ⊎ ((1 ≤ class) × (class ≤ 2) × Sized area storeys)

-- the formulas of class 1 and class 2
abbrev pub rooms : Formula
rooms = record { base = 4000; bound = 32400000000; from = 900 }

abbrev pub halls : Formula
halls = record { base = 5000; bound = 90000000000; from = 3600 }

-- f is the base and the smallest k by the area, no area counting below `from`, and the storeys
abbrev pub Reduced : Formula → (area storeys f : ℕ) → Type 0
Reduced formula area storeys f = (k : ℕ) × (f ≡ formula.base + k) × Smallest formula.bound (max area formula.from * storeys) k

-- f is the factor for this class, area and number of storeys
pub record Factor (class area storeys f : ℕ) : Type 0 where
  pub whole_0 : class ≡ 0 → f ≡ 10000
  pub reduced_1 : class ≡ 1 → Reduced rooms area storeys f
  pub reduced_2 : class ≡ 2 → Reduced halls area storeys f

-- a formula by which no factor is above 10000
pub record Usable (formula : Formula) : Type 0 where
  pub base_low : formula.base < 10000
  pub some : 0 < formula.bound
  pub few : formula.bound ≤ (10000 - formula.base) * (10000 - formula.base) * formula.from
  pub from_high : formula.from ≤ 1000000

-- the first of k, k + 1, .., k + fuel whose square times share is at least bound, or the last of them
unfoldable pub first : (fuel k bound share : ℕ) → ℕ
first zero k bound share = k
first (suc fuel) k bound share = cond (nat_le bound (k * k * share)) k (first fuel (suc k) bound share)

-- the factor as a function, for the sums and products in which it stands
unfoldable pub factor_of : (class area storeys : ℕ) → ℕ
factor_of zero area storeys = 10000
factor_of (suc zero) area storeys = 4000 + first 6000 0 32400000000 (max area 900 * storeys)
factor_of (suc (suc class)) area storeys = 5000 + first 6000 0 90000000000 (max area 3600 * storeys)
