-- The last k digits of a number, one by one.
-- Assumes nothing.
use Rattle.std.proofs.Common.{◌≡◌, ℕ, zero, suc, ◌+◌, ◌-◌, ◌/◌, ◌%◌, ◌^◌, ◌<◌, ◌≤◌, [], ◌∷◌, refl, arith}
use Rattle.lines.specs.Fixed.{padded}

pub padded_next : (k n p : ℕ) → 0 < k → p ≡ 10 ^ (k - 1) → padded k n ≡ (48 + n / p % 10) ∷ padded (k - 1) n
padded_next zero n p some e = absurd (omega arith)
padded_next (suc k) n p some e = let less : suc k - 1 ≡ k = omega arith in rw (e, less)

pub padded_none : (k n : ℕ) → k ≤ 0 → padded k n ≡ []
padded_none zero n none = refl
padded_none (suc k) n none = absurd (omega arith)
