-- What an effect type is: values with a sum, a multiple, an order and a reach, and the laws that they keep.
use Rattle.std.specs.Prelude.{◌≡◌, ℕ, ◌+◌, ◌*◌, ◌≤◌, true}
use Rattle.std.specs.declared.cmp.Ordering.TheVariants.{Less, Equal}
use Rattle.std.specs.declared.cmp.Ordering.{Ordering}
use Rattle.std.specs.Ordering.{ordering_reverse, is_le}

-- Sums and multiples are owed up to this reach; beyond it what they give is left free.
abbrev pub limit : ℕ
limit = 6400000000000000000

-- the answers of an effect type with the values V
pub record Operations (V : Type 0) : Type 0 where
  pub nil : V
  pub plus : V → V → V
  pub times : ℕ → V → V
  pub order : V → V → Ordering
  pub reach : V → ℕ

abbrev pub Under : {V : Type 0} → Operations V → V → V → Type 0
Under e a b = e.order a b ≡ Less

abbrev pub AtMost : {V : Type 0} → Operations V → V → V → Type 0
AtMost e a b = is_le (e.order a b) ≡ true

-- Each law on sums and multiples has as its premise that those which it names are owed.
pub record Laws {V : Type 0} (e : Operations V) : Type 0 where
  -- a total order: equal means the same value; the other way round the answer is reversed, so that of two values one is less or both are the same; less is transitive
  pub order_same : (a : V) → e.order a a ≡ Equal
  pub order_equal : (a b : V) → e.order a b ≡ Equal → a ≡ b
  pub order_turned : (a b : V) → e.order b a ≡ ordering_reverse (e.order a b)
  pub order_trans : (a b c : V) → Under e a b → Under e b c → Under e a c
  -- the sum is commutative and associative, zero is neutral, and less stays less where the same value is added to both
  pub plus_comm : (a b : V) → e.reach a + e.reach b ≤ limit → e.plus a b ≡ e.plus b a
  pub plus_assoc : (a b c : V) → e.reach a + e.reach b + e.reach c ≤ limit → e.plus (e.plus a b) c ≡ e.plus a (e.plus b c)
  pub plus_nil : (a : V) → e.reach a ≤ limit → e.plus a e.nil ≡ a
  pub plus_under : (a b c : V) → e.reach a + e.reach c ≤ limit → e.reach b + e.reach c ≤ limit → Under e a b → Under e (e.plus a c) (e.plus b c)
  -- multiples distribute over sums of values and over sums of numbers, a multiple of a multiple is the multiple by the product, once a value is that value
  pub times_plus : (p : ℕ) (a b : V) → e.reach a + e.reach b ≤ limit → p * (e.reach a + e.reach b) ≤ limit → e.times p (e.plus a b) ≡ e.plus (e.times p a) (e.times p b)
  pub plus_times : (p q : ℕ) (a : V) → (p + q) * e.reach a ≤ limit → e.times (p + q) a ≡ e.plus (e.times p a) (e.times q a)
  pub times_times : (p q : ℕ) (a : V) → q * e.reach a ≤ limit → p * q * e.reach a ≤ limit → e.times p (e.times q a) ≡ e.times (p * q) a
  pub times_once : (a : V) → e.reach a ≤ limit → e.times 1 a ≡ a
  -- zero has reach 0, a sum's reach is at most the sum of the reaches, p times a value has p times its reach
  pub reach_nil : e.reach e.nil ≡ 0
  pub reach_plus : (a b : V) → e.reach a + e.reach b ≤ limit → e.reach (e.plus a b) ≤ e.reach a + e.reach b
  pub reach_times : (p : ℕ) (a : V) → p * e.reach a ≤ limit → e.reach (e.times p a) ≡ p * e.reach a
