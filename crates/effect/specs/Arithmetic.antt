-- The order of the integers, and multiples by a natural number.
use Rattle.std.specs.Prelude.{◌≡◌, ℕ, zero, suc, ◌+◌, ◌*◌, ◌<◌, ◌≤◌, ℤ, pos, negsuc, ◌+ℤ◌, ◌*ℤ◌, FitsSigned, unsigned_abs}
use Rattle.std.specs.declared.cmp.Ordering.TheVariants.{Less, Equal}
use Rattle.std.proofs.Common.{ap, sym, arith, mul-add, add-mul, mul_assoc, mul-zero, le-mul_of_pos_right}
use borrow.Author.Differences.{up, down, same_in, sum_is_lem, product_is, ints}
use Rattle.std.specs.Ordering.{ordering_reverse}
use Rattle.std.specs.Int.{w64}
use Rattle.effect.specs.Laws.{limit}
use Rattle.effect.specs.Models.{order_z}

pub order_z_same : (a : ℤ) → order_z a a ≡ Equal
order_z_same a = grind (arith, ints)

pub order_z_equal : (a b : ℤ) → order_z a b ≡ Equal → a ≡ b
order_z_equal a b h = grind (arith, ints)

pub order_z_turned : (a b : ℤ) → order_z b a ≡ ordering_reverse (order_z a b)
order_z_turned a b = grind (arith, ints)

pub order_z_trans : (a b c : ℤ) → order_z a b ≡ Less → order_z b c ≡ Less → order_z a c ≡ Less
order_z_trans a b c h k = grind (arith, ints)

pub order_z_plus : (a b c : ℤ) → order_z (a +ℤ c) (b +ℤ c) ≡ order_z a b
order_z_plus a b c = grind (arith, ints)

-- the two parts of a multiple
pub up_times : (p : ℕ) (z : ℤ) → up (pos p *ℤ z) ≡ p * up z
up_times p z = omega (arith, product_is (pos p) z)

pub down_times : (p : ℕ) (z : ℤ) → down (pos p *ℤ z) ≡ p * down z
down_times p z = omega (arith, product_is (pos p) z)

pub times_plus_z : (p : ℕ) (a b : ℤ) → pos p *ℤ (a +ℤ b) ≡ pos p *ℤ a +ℤ pos p *ℤ b
times_plus_z p a b =
    let scaled = simp mul-add at (ap (λ (n : ℕ). p * n) (sum_is_lem a b)) in
    same_in _ _ (simp (up_times, down_times) (omega (arith, scaled, simp (up_times, down_times) at (sum_is_lem (pos p *ℤ a) (pos p *ℤ b)))))

pub plus_times_z : (p q : ℕ) (a : ℤ) → pos (p + q) *ℤ a ≡ pos p *ℤ a +ℤ pos q *ℤ a
plus_times_z p q a =
    same_in _ _ (simp (up_times, down_times, add-mul) (omega (arith, simp (up_times, down_times) at (sum_is_lem (pos p *ℤ a) (pos q *ℤ a)))))

pub times_times_z : (p q : ℕ) (a : ℤ) → pos p *ℤ (pos q *ℤ a) ≡ pos (p * q) *ℤ a
times_times_z p q a = same_in _ _ (simp (up_times, down_times, mul_assoc))

pub times_once_z : (a : ℤ) → pos 1 *ℤ a ≡ a
times_once_z a = same_in _ _ (simp (up_times, down_times) (omega arith))

pub abs_plus : (a b : ℤ) → unsigned_abs (a +ℤ b) ≤ unsigned_abs a + unsigned_abs b
abs_plus a b = omega (arith, ints)

parts : (z : ℤ) → unsigned_abs z ≡ up z + down z
parts (pos n) = omega arith
parts (negsuc n) = omega arith

pub abs_times : (p : ℕ) (a : ℤ) → unsigned_abs (pos p *ℤ a) ≡ p * unsigned_abs a
abs_times p a = simp (parts, up_times, down_times, mul-add)

zero_lt : (m : ℕ) → 0 < suc m
zero_lt m = omega arith

-- within the limit a number fits 64 bits
pub fits_limit : (z : ℤ) → unsigned_abs z ≤ limit → FitsSigned w64 z
fits_limit (pos n) h = record { sfits = omega arith }
fits_limit (negsuc n) h = record { sfits = omega arith }

-- only zero has so large a multiple within the limit
pub huge_times : (p : ℕ) (z : ℤ) → (FitsSigned w64 (pos p) → ⊥) → p * unsigned_abs z ≤ limit → pos 0 ≡ pos p *ℤ z
huge_times p (pos zero) n h = ap pos (sym (mul-zero p))
huge_times p (pos (suc m)) n h = absurd (n (record { sfits = omega (arith, le-mul_of_pos_right p (zero_lt m)) }))
huge_times p (negsuc m) n h = absurd (n (record { sfits = omega (arith, le-mul_of_pos_right p (zero_lt m)) }))
