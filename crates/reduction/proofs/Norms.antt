-- The laws of a factor: it is the norm's formula, rounded up, and falls with area and storeys.
-- Assumes nothing.
use Rattle.std.proofs.Common.{◌≡◌, ℕ, ◌-◌, ◌*◌, ◌≤◌, max, Some, None, sym, refl, subst, inl, inr, le_trans, mul-le-mul, mul-le-mul_left, arith, lit≤}
use Rattle.reduction.specs.Answer.{Given}
use Rattle.reduction.specs.Classes.{number_of_class, formula_of}
use Rattle.reduction.specs.Factor.{Sized, InRange, Reduced, Factor, rooms, halls}
use Rattle.reduction.specs.Laws.{NotBelow, NotBelowNorm, lowest}
use Rattle.reduction.specs.declared.class.Class.{Class}
use Rattle.reduction.specs.declared.class.Class.TheVariants.{Whole, Rooms, Halls}
use Rattle.reduction.specs.declared.extent.Extent.{Extent}
use Rattle.reduction.specs.declared.formula.Formula.{Formula}
use Rattle.reduction.proofs.Factors.{factor_0, factor_1, factor_2, factor_exists, factor_only, sized_of}

module _ (formula : Formula) (scale : ℕ) (whole : formula.bound ≡ scale * scale * formula.from) (area storeys f : ℕ) (r : Reduced formula area storeys f) where
  -- the numbers that are not below the formula are those that are large enough
  pub safe_by : NotBelow formula.base scale formula.from area storeys f
  safe_by =
      let k : f - formula.base ≡ r.0 = omega (arith, r.1) in
      record { base_low = omega (arith, r.1); squares = rw k (omega (arith, whole, r.2.enough)) }

  pub least_by : (g : ℕ) → NotBelow formula.base scale formula.from area storeys g → f ≤ g
  least_by g h =
      omega (arith, h.base_low, r.1, r.2.least (g - formula.base) (omega (arith, whole, h.squares)))

-- what is enough for a share is enough for a larger one
pub falls_by : (formula : Formula) (area storeys area' storeys' f g : ℕ) → area ≤ area' → storeys ≤ storeys'
    → Reduced formula area storeys f → Reduced formula area' storeys' g → g ≤ f
falls_by formula area storeys area' storeys' f g more higher r s =
    let wider : max area formula.from * storeys ≤ max area' formula.from * storeys' = mul-le-mul (omega arith) higher in
    omega (arith, r.1, s.1, s.2.least r.0 (le_trans r.2.enough (mul-le-mul_left (r.0 * r.0) wider)))

given : (class area storeys f : ℕ) → InRange class area storeys → Factor class area storeys f
    → NotBelowNorm class area storeys f → ((g : ℕ) → NotBelowNorm class area storeys g → f ≤ g) → lowest class ≤ f → f ≤ 10000
    → ((area' storeys' g : ℕ) → area ≤ area' → storeys ≤ storeys' → InRange class area' storeys' → Factor class area' storeys' g → g ≤ f)
    → Given class area storeys f
given class area storeys f h p safe least low high falls =
    record {
      range = h;
      factor = p;
      value = factor_only class area storeys f _ h p (factor_exists class area storeys h);
      laws = record { safe = safe; least = least; low = low; high = high; falls = falls; only = λ g q. factor_only class area storeys g f h q p };
    }

given_0 : (area storeys : ℕ) → Given 0 area storeys 10000
given_0 area storeys =
    given 0 area storeys 10000 (inl refl) (factor_0 area storeys) (lit≤ tt) (λ g h. h) (lit≤ tt) (lit≤ tt)
    (λ area' storeys' g a s h q. omega (arith, q.whole_0 refl))

given_1 : (area storeys f : ℕ) → Sized area storeys → Reduced rooms area storeys f → f ≤ 10000 → Given 1 area storeys f
given_1 area storeys f h r high =
    let safe = safe_by rooms 6000 refl area storeys f r in
    given 1 area storeys f (inr (lit≤ tt, lit≤ tt, h)) (factor_1 area storeys f r) safe (least_by rooms 6000 refl area storeys f r) safe.base_low high
    (λ area' storeys' g a s _ q. falls_by rooms area storeys area' storeys' f g a s r (q.reduced_1 refl))

given_2 : (area storeys f : ℕ) → Sized area storeys → Reduced halls area storeys f → f ≤ 10000 → Given 2 area storeys f
given_2 area storeys f h r high =
    let safe = safe_by halls 5000 refl area storeys f r in
    given 2 area storeys f (inr (lit≤ tt, lit≤ tt, h)) (factor_2 area storeys f r) safe (least_by halls 5000 refl area storeys f r) safe.base_low high
    (λ area' storeys' g a s _ q. falls_by halls area storeys area' storeys' f g a s r (q.reduced_2 refl))

-- class 0 alone has no formula
pub whole : (k : Class) (class area storeys : ℕ) → class ≡ number_of_class k → formula_of k ≡ None → Given class area storeys 10000
whole Whole class area storeys e p = subst (λ (c : ℕ). Given c area storeys 10000) (sym e) (given_0 area storeys)
whole Rooms class area storeys e p = absurd cc
whole Halls class area storeys e p = absurd cc

given_in : (k : Class) (formula : Formula) (x : Extent) (f : ℕ) → formula_of k ≡ Some formula → Reduced formula x.area x.storeys f → f ≤ 10000
    → Given (number_of_class k) x.area x.storeys f
given_in Whole formula x f p r h = absurd cc
given_in Rooms formula x f p r h =
    let q : formula ≡ rooms = cc in
    given_1 x.area x.storeys f (sized_of x) (subst (λ (y : Formula). Reduced y x.area x.storeys f) q r) h
given_in Halls formula x f p r h =
    let q : formula ≡ halls = cc in
    given_2 x.area x.storeys f (sized_of x) (subst (λ (y : Formula). Reduced y x.area x.storeys f) q r) h

pub reduced : (k : Class) (formula : Formula) (x : Extent) (class area storeys f : ℕ) → class ≡ number_of_class k → formula_of k ≡ Some formula
    → (x.area ≡ area) × (x.storeys ≡ storeys) → Reduced formula x.area x.storeys f → f ≤ 10000 → Given class area storeys f
reduced k formula x class area storeys f e p at r h =
    rw (e, ← at.0, ← at.1) (given_in k formula x f p r h)
