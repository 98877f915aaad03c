-- The sum of a list of effects, and an effect that is taken or not.
use Rattle.std.specs.Prelude.{◌≡◌, ℕ, ◌+◌, ◌*◌, ◌≤◌, List, [], ◌∷◌, Some, None, Option}
use Rattle.effect.specs.Laws.{Operations, limit}
use Rattle.effect.specs.Rearranging.{Rearranged}

-- the sum of a list, zero for none
abbrev pub total : {V : Type 0} → Operations V → List V → V
total e [] = e.nil
total e (x ∷ xs) = e.plus x (total e xs)

-- the reaches of a list together
abbrev pub reaches : {V : Type 0} → Operations V → List V → ℕ
reaches e [] = 0
reaches e (x ∷ xs) = e.reach x + reaches e xs

-- r is the sum of xs, and of xs in any other order
pub record Summed {V : Type 0} (e : Operations V) (xs : List V) (r : V) : Type 0 where
  pub value : r ≡ total e xs
  pub any_order : (ys : List V) → Rearranged xs ys → r ≡ total e ys
  pub reach : e.reach r ≤ reaches e xs

-- r is p times a where a is taken so often; where it is not taken, r is zero, which is 0 times a
pub record Counted {V : Type 0} (e : Operations V) (a : V) (taken : Option ℕ) (r : V) : Type 0 where
  pub if_taken : (p : ℕ) → taken ≡ Some p → p * e.reach a ≤ limit → r ≡ e.times p a
  pub if_not : taken ≡ None → (r ≡ e.nil) × (r ≡ e.times 0 a)
