-- No choice passes the limit where each contribution is small.
use Rattle.std.proofs.Common.{ℕ, ◌*◌, ◌≤◌, List, [], ◌∷◌, length, mul-le-mul_right, suc-mul, arith, Some, None, Option}
use Rattle.std.specs.List.{AllByRecursion}
use Rattle.effect.specs.Laws.{Operations, Laws, limit}
use Rattle.questions.specs.PartChoices.{worth, reach_sum, Light, Small}
use Rattle.questions.specs.Items.{Item}
use Rattle.norm.specs.declared.roles.Role.{Role}
use Rattle.norm.specs.declared.roles.Role.TheVariants.{Leading, Second, Other}

module _ {V : Type 0} {n : Operations V} (laws : Laws n) (u : ℕ) where
  pub small_worth : (it : Item V) (p : Option Role) → Small n u it → n.reach (worth n it p) ≤ u
  small_worth it None h = omega (arith, laws.reach_nil)
  small_worth it (Some Leading) h = h.leading
  small_worth it (Some Second) h = h.second
  small_worth it (Some Other) h = h.other

  reach_sum_small : (items : List (Item V)) (ps : List (Option Role)) → AllByRecursion (Small n u) items → reach_sum n items ps ≤ length items * u
  reach_sum_small [] ps h = omega arith
  reach_sum_small (it ∷ items) [] h = omega arith
  reach_sum_small (it ∷ items) (p ∷ ps) h = omega (arith, small_worth it p h.0, reach_sum_small items ps h.1, suc-mul (length items) u)

  pub light_from_small : (items : List (Item V)) → length items ≤ 32 → 32 * u ≤ limit → AllByRecursion (Small n u) items → Light n items
  light_from_small items few fits h ps same = omega (arith, reach_sum_small items ps h, mul-le-mul_right u few)
