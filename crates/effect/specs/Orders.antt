-- The order of an effect type, and what sums and multiples do to it.
use Rattle.std.specs.Prelude.{◌≡◌, ℕ, ◌+◌, ◌*◌, ◌≤◌, Bool, ◌⊎◌, Decides, ◌≢◌}
use Rattle.std.specs.declared.cmp.Ordering.TheVariants.{Less}
use Rattle.std.specs.declared.cmp.Ordering.{Ordering}
use Rattle.effect.specs.Laws.{Operations, AtMost, limit}

pub record TotalOrder {V : Type 0} (R : V → V → Type 0) : Type 0 where
  pub reflexive : (a : V) → R a a
  pub antisymmetric : (a b : V) → R a b → R b a → a ≡ b
  pub transitive : (a b c : V) → R a b → R b c → R a c
  pub total : (a b : V) → R a b ⊎ R b a

-- at most is a total order, which sums keep: the same value may be added to both sides and cancelled on both, and what is at most what may be added side by side
pub record SumsKeepOrder {V : Type 0} (e : Operations V) : Type 0 where
  pub order : TotalOrder (AtMost e)
  pub added : (a b c : V) → e.reach a + e.reach c ≤ limit → e.reach b + e.reach c ≤ limit → AtMost e a b → AtMost e (e.plus a c) (e.plus b c)
  pub cancelled : (a b c : V) → e.reach a + e.reach c ≤ limit → e.reach b + e.reach c ≤ limit → AtMost e (e.plus a c) (e.plus b c) → AtMost e a b
  pub both : (a b c d : V) → e.reach a + e.reach c ≤ limit → e.reach b + e.reach d ≤ limit → AtMost e a b → AtMost e c d → AtMost e (e.plus a c) (e.plus b d)

-- r says whether a is at most b
pub record Compared {V : Type 0} (e : Operations V) (a b : V) (r : Bool) : Type 0 where
  pub answer : Decides r (AtMost e a b)
  pub kept : SumsKeepOrder e

-- r is the larger of a and b
pub record Larger {V : Type 0} (e : Operations V) (a b r : V) : Type 0 where
  pub first : AtMost e a r
  pub second : AtMost e b r
  pub one : (r ≡ a) ⊎ (r ≡ b)

-- r is the larger of a and b; it stays so where the same value is added to all, or all are multiplied by the same number
pub record LargerOf {V : Type 0} (e : Operations V) (a b r : V) : Type 0 where
  pub value : Larger e a b r
  pub added : (c : V) → e.reach a + e.reach c ≤ limit → e.reach b + e.reach c ≤ limit → Larger e (e.plus a c) (e.plus b c) (e.plus r c)
  pub multiplied : (p : ℕ) → p * e.reach a ≤ limit → p * e.reach b ≤ limit → Larger e (e.times p a) (e.times p b) (e.times p r)

-- r is how a and b compare, and so which of them is the larger
pub record Ordered {V : Type 0} (e : Operations V) (a b : V) (r : Ordering) : Type 0 where
  pub answer : r ≡ e.order a b
  pub kept : SumsKeepOrder e
  pub second : r ≡ Less → LargerOf e a b b
  pub first : (r ≢ Less) → LargerOf e a b a
