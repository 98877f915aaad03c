-- The same loads, entered in two ways.
use Rattle.std.specs.Prelude.{ℕ, List, [], ◌∷◌, ℤ, pos, ◌≢◌}
use Rattle.std.specs.List.{AllByRecursion}
use Rattle.effect.specs.Models.{forces, of_force}
use Rattle.effect.specs.declared.newtons.N.{N}
use Rattle.loads.specs.declared.kinds.Kind.TheVariants.{Permanent, ShortTerm}
use Rattle.loads.specs.declared.records.Record.{Record}
use Rattle.norm.specs.declared.roles.Role.TheVariants.{Leading, Second}
use Rattle.combination.specs.Choices.{Admissible}
use Rattle.combination.specs.Loads.{SameDesignLoads}
use Rattle.combination.specs.Sound.{Sound}
use Rattle.combination.specs.declared.picks.Pick.TheVariants.{Upper, Out, As}
use Rattle.combination.specs.declared.questions.Question.TheVariants.{Basic}

abbrev pub permanent_load : (number : ℕ) (force : ℤ) (upper lower : ℕ) → Record N
permanent_load number force upper lower = record {
  number = number;
  kind = Permanent;
  load = record { group = 0; upper = upper; lower = lower; class = 0; area = 0; storeys = 0; effect = of_force force };
}

-- class 0 is not reduced; in class 1 the area is that of one storey
abbrev pub short_term_load : (number group : ℕ) (force : ℤ) (upper class area : ℕ) → Record N
short_term_load number group force upper class area = record {
  number = number;
  kind = ShortTerm;
  load = record { group = group; upper = upper; lower = 0; class = class; area = area; storeys = class; effect = of_force force };
}

abbrev pub first_way : List (Record N)
first_way = permanent_load 1 (pos 500) 110 88 ∷ short_term_load 2 3 (pos 300) 120 1 3600 ∷ short_term_load 3 3 (pos 200) 100 0 0 ∷ []

abbrev pub second_way : List (Record N)
second_way = short_term_load 4 7 (pos 100) 200 0 0 ∷ permanent_load 5 (pos 550) 100 80 ∷ short_term_load 6 7 (pos 210) 120 0 0 ∷ []

-- both keep the rules, have no record in common and have the same design loads; a choice that takes one load of the group is admissible, one that takes both is not
pub record SameLoads (first second : List (Record N)) : Type 0 where
  pub first_sound : Sound forces first
  pub second_sound : Sound forces second
  pub different : AllByRecursion (λ a. AllByRecursion (λ b. a ≢ b) second) first
  pub same : SameDesignLoads forces first second
  pub admissible : Admissible Basic first (Upper ∷ As Leading ∷ Out ∷ [])
  pub one_of_a_group : Admissible Basic first (Upper ∷ As Leading ∷ As Second ∷ []) → ⊥
