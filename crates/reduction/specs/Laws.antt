-- What an engineer wants of a factor.
use Rattle.std.specs.Prelude.{◌≡◌, ℕ, zero, suc, ◌-◌, ◌*◌, ◌≤◌, max}
use Rattle.reduction.specs.Factor.{InRange, Factor}

-- f ten-thousandths are not below base + scale / √(a × n / from), where n is the storeys and a the area, or from if that is larger.
-- There are no roots here, so it is said over squares.
pub record NotBelow (base scale from area storeys f : ℕ) : Type 0 where
  pub base_low : base ≤ f
  pub squares : scale * scale * from ≤ (f - base) * (f - base) * (max area from * storeys)

-- the norms' formulas, with the area A in square metres, at least 9 in class 1 and 36 in class 2: 1 in class 0,
-- 0.4 + 0.6 / √(A n / 9) in class 1, and 0.5 + 0.5 / √(A n / 36) in class 2
abbrev pub NotBelowNorm : (class area storeys f : ℕ) → Type 0
NotBelowNorm zero area storeys f = 10000 ≤ f
NotBelowNorm (suc zero) area storeys f = NotBelow 4000 6000 900 area storeys f
NotBelowNorm (suc (suc class)) area storeys f = NotBelow 5000 5000 3600 area storeys f

-- the lowest factor that a class can have
abbrev pub lowest : ℕ → ℕ
lowest zero = 10000
lowest (suc zero) = 4000
lowest (suc (suc class)) = 5000

pub record Laws (class area storeys f : ℕ) : Type 0 where
  -- f is the smallest whole number of ten-thousandths that is not below the norm's formula
  pub safe : NotBelowNorm class area storeys f
  pub least : (g : ℕ) → NotBelowNorm class area storeys g → f ≤ g
  -- f lies between the class's base and 10000
  pub low : lowest class ≤ f
  pub high : f ≤ 10000
  -- a larger area or more storeys never raise it
  pub falls : (area' storeys' g : ℕ) → area ≤ area' → storeys ≤ storeys' → InRange class area' storeys' → Factor class area' storeys' g → g ≤ f
  -- there is no other factor
  pub only : (g : ℕ) → Factor class area storeys g → g ≡ f
