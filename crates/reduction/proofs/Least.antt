-- The smallest k for which k × k × share is at least bound: how it is shown, that there is one, and that a search from 0 up finds it.
-- Assumes nothing.
use Rattle.std.proofs.Common.{◌≡◌, ℕ, zero, suc, ◌+◌, ◌-◌, ◌*◌, ◌/◌, ◌<◌, ◌≤◌, leb, ⊎_elim, add-zero, add-suc, mul-le-mul_right, div-lt_iff_lt-mul, mul-le-mul, suc-add, le-div_iff_mul-le, arith}
use Rattle.std.proofs.lemmas.Bool.{cases_lt, cond_both, leb-true, leb-false}
use Rattle.reduction.specs.Factor.{RootAbove, Smallest, first}

-- squares keep the order, and so do their products with one share
pub square_mono : (j k share : ℕ) → j ≤ k → j * j * share ≤ k * k * share
square_mono j k share h = mul-le-mul_right share (mul-le-mul h h)

-- by the smallest number whose square is above the quotient
pub smallest_by_root : (bound share r : ℕ) → 0 < bound → 0 < share → RootAbove ((bound - 1) / share) r → Smallest bound share r
smallest_by_root bound share zero some part root = absurd (omega (arith, root.above))
smallest_by_root bound share (suc k) some part root =
    let low : k * k * share ≤ bound - 1 = (le-div_iff_mul-le part).0 (root.below k (omega arith)) in
    let high : bound - 1 < suc k * suc k * share = (div-lt_iff_lt-mul part).0 root.above in
    record {
      enough = omega arith;
      least = λ j h. ⊎_elim (λ lt. omega (arith, square_mono j k share (omega arith))) (λ ge. ge) (cases_lt j (suc k));
    }

pub smallest_only : (bound share k l : ℕ) → Smallest bound share k → Smallest bound share l → k ≡ l
smallest_only bound share k l p q = omega (arith, p.least l q.enough, q.least k p.enough)

-- a search from k up finds it, where it is neither below k nor past the end
pub first_smallest : (fuel k bound share : ℕ)
    → ((j : ℕ) → bound ≤ j * j * share → k ≤ j) → bound ≤ (k + fuel) * (k + fuel) * share
    → Smallest bound share (first fuel k bound share)
unfolding first
first_smallest zero k bound share low high =
    record { enough = simp add-zero at high; least = low }
first_smallest (suc fuel) k bound share low high =
    cond_both (leb bound (k * k * share)) k (first fuel (suc k) bound share) (Smallest bound share)
    (λ t. record { enough = leb-true bound (k * k * share) t; least = low })
    (λ t.
    first_smallest fuel (suc k) bound share
    (λ j h.
    ⊎_elim (λ lt. omega (arith, square_mono j k share (omega arith), leb-false bound (k * k * share) t)) (λ ge. ge)
    (cases_lt j (suc k)))
    (rw (suc-add, ← add-suc) high))
