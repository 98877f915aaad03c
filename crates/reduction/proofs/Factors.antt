-- Factors: a formula bounds k, so that the search of `factor_of` from 0 up finds it; there is one factor in range.
-- Assumes nothing.
use Rattle.std.proofs.Common.{◌≡◌, ℕ, zero, suc, ◌+◌, ◌-◌, ◌*◌, ◌≤◌, max, sym, refl, ◌∙◌, subst, inl, inr, zero-le, le_trans, mul-le-mul, mul-le-mul_left, arith, lit≤}
use native.Mathlib.Nat.{le-max_right}
use Rattle.reduction.specs.Factor.{Smallest, Sized, InRange, Reduced, Factor, Usable, rooms, halls, first, factor_of}
use Rattle.reduction.specs.declared.extent.Extent.{Extent}
use Rattle.reduction.specs.declared.formula.Formula.{Formula}
use Rattle.reduction.proofs.Least.{smallest_only, first_smallest}

-- one storey or more: the share is at least the area from which a load is reduced
share_from : (from area storeys : ℕ) → 1 ≤ storeys → from ≤ max area from * storeys
share_from from area storeys h = omega (arith, mul-le-mul {n₁ = from} {m₁ = 1} (le-max_right area from) h)

-- what is enough there is enough for every area
enough_at : (bound from area storeys top : ℕ) → 1 ≤ storeys → bound ≤ top * top * from → bound ≤ top * top * (max area from * storeys)
enough_at bound from area storeys top some h = le_trans h (mul-le-mul_left (top * top) (share_from from area storeys some))

smallest_bound : (bound from area storeys top k : ℕ) → 1 ≤ storeys → bound ≤ top * top * from
    → Smallest bound (max area from * storeys) k → k ≤ top
smallest_bound bound from area storeys top k some h s = s.least top (enough_at bound from area storeys top some h)

-- the search of `factor_of`, from 0 up to 6000
first_found : (bound from area storeys : ℕ) → 1 ≤ storeys → bound ≤ 36000000 * from
    → Smallest bound (max area from * storeys) (first 6000 0 bound (max area from * storeys))
first_found bound from area storeys some h =
    first_smallest 6000 0 bound (max area from * storeys) (λ j _. zero-le) (enough_at bound from area storeys 6000 some h)

reduced_only : (formula : Formula) (area storeys f g : ℕ) → Reduced formula area storeys f → Reduced formula area storeys g → f ≡ g
reduced_only formula area storeys f g (k, e, s) (l, d, t) =
    omega (arith, smallest_only formula.bound (max area formula.from * storeys) k l s t)

pub factor_0 : (area storeys : ℕ) → Factor 0 area storeys 10000
factor_0 area storeys = record { whole_0 = λ _. refl; reduced_1 = λ e. absurd (omega arith); reduced_2 = λ e. absurd (omega arith) }

pub factor_1 : (area storeys f : ℕ) → Reduced rooms area storeys f → Factor 1 area storeys f
factor_1 area storeys f r = record { whole_0 = λ e. omega arith; reduced_1 = λ _. r; reduced_2 = λ e. absurd (omega arith) }

pub factor_2 : (area storeys f : ℕ) → Reduced halls area storeys f → Factor 2 area storeys f
factor_2 area storeys f r = record { whole_0 = λ e. omega arith; reduced_1 = λ e. absurd (omega arith); reduced_2 = λ _. r }

pub factor_exists : (class area storeys : ℕ) → InRange class area storeys → Factor class area storeys (factor_of class area storeys)
unfolding factor_of
factor_exists zero area storeys h = factor_0 area storeys
factor_exists (suc zero) area storeys (inl e) = absurd (omega arith)
factor_exists (suc zero) area storeys (inr h) =
    factor_1 area storeys _ (_, refl, first_found 32400000000 900 area storeys h.2.storeys_low (lit≤ tt))
factor_exists (suc (suc zero)) area storeys (inl e) = absurd (omega arith)
factor_exists (suc (suc zero)) area storeys (inr h) =
    factor_2 area storeys _ (_, refl, first_found 90000000000 3600 area storeys h.2.storeys_low (lit≤ tt))
factor_exists (suc (suc (suc class))) area storeys (inl e) = absurd (omega arith)
factor_exists (suc (suc (suc class))) area storeys (inr h) = absurd (omega arith)

pub factor_only : (class area storeys f g : ℕ) → InRange class area storeys → Factor class area storeys f → Factor class area storeys g → f ≡ g
factor_only zero area storeys f g h p q = p.whole_0 refl ∙ sym (q.whole_0 refl)
factor_only (suc zero) area storeys f g h p q = reduced_only rooms area storeys f g (p.reduced_1 refl) (q.reduced_1 refl)
factor_only (suc (suc zero)) area storeys f g h p q = reduced_only halls area storeys f g (p.reduced_2 refl) (q.reduced_2 refl)
factor_only (suc (suc (suc class))) area storeys f g (inl e) p q = omega arith
factor_only (suc (suc (suc class))) area storeys f g (inr h) p q = omega arith

pub sized_of : (x : Extent) → Sized x.area x.storeys
sized_of x = record { area_low = x.area_low; area_high = x.area_high; storeys_low = x.storeys_low; storeys_high = x.storeys_high }

-- the base and the smallest k are the factor by the formula, which is at most 10000
pub reduced_by : (formula : Formula) (area storeys a k : ℕ) → Usable formula → Sized area storeys → a ≡ max area formula.from
    → Smallest formula.bound (a * storeys) k → Reduced formula area storeys (formula.base + k) × (formula.base + k ≤ 10000)
reduced_by formula area storeys a k usable sized e s =
    let at : Smallest formula.bound (max area formula.from * storeys) k = subst (λ (n : ℕ). Smallest formula.bound (n * storeys) k) e s in
    let few : k ≤ 10000 - formula.base =
    smallest_bound formula.bound formula.from area storeys (10000 - formula.base) k sized.storeys_low usable.few at in
    ((k, refl, at), omega (arith, usable.base_low))
