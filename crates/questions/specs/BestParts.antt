-- Part choices: the best ones that take only records already done.
use Rattle.std.specs.Prelude.{◌≡◌, ℕ, ◌<◌, Bool, false, ◌⊎◌, List, length, Some, None, Option, ◌≢◌, slice_index_or, slice_set}
use Rattle.effect.specs.Laws.{Operations}
use Rattle.effect.specs.Laws.{AtMost}
use Rattle.questions.specs.PartChoices.{From, Marked, comes, group_at, assigned, chosen}
use Rattle.questions.specs.declared.choice.PartChoice.{PartChoice}
use Rattle.questions.specs.Items.{Item}
use Rattle.questions.specs.Larger.{NoLess}
use Rattle.questions.specs.Larger.{Tops as Held}
use Rattle.norm.specs.declared.roles.Role.{Role}

-- record j added in role r
abbrev pub added : ℕ → Role → Option PartChoice → Option PartChoice
added j r None = None
added j r (Some p) = Some (record { assignments = slice_set p.assignments j (assigned r) })

abbrev pub Sound : {V : Type 0} → List (Item V) → List Bool → ℕ → ℕ → ℕ → Option PartChoice → Type 0
Sound items done c l s None = Unit {0}
Sound items done c l s (Some p) = From items done c l s (chosen items p)

module _ {V : Type 0} (n : Operations V) (items : List (Item V)) where
  -- qs comes to no more than ps: the order that a best choice is best in
  abbrev pub Under : List (Option Role) → List (Option Role) → Type 0
  Under qs ps = AtMost n (comes n items qs) (comes n items ps)

  -- qs comes to no more than the choice that is held
  abbrev pub Tops : Option PartChoice → List (Option Role) → Type 0
  Tops o qs = Held n (λ p. comes n items (chosen items p)) (comes n items) o qs

  -- the best choice from what is done; None where there is no choice
  pub record BestFrom (done : List Bool) (c l s : ℕ) (o : Option PartChoice) : Type 0 where
    pub sound : Sound items done c l s o
    pub most : (qs : List (Option Role)) → From items done c l s qs → Tops o qs

  -- r is a or b, and no less than either
  abbrev pub Better : Option PartChoice → Option PartChoice → Option PartChoice → Type 0
  Better a b r = NoLess n (λ p. comes n items (chosen items p)) (comes n items) a b r

-- Record j can be added to each choice from `old`, and to no other choice from `done`.
pub record Opens {V : Type 0} (items : List (Item V)) (old done : List Bool) (j : ℕ) : Type 0 where
  pub here : j < length items
  pub room : j < length done
  pub free : slice_index_or done j false ≡ false
  pub wider : (k : ℕ) → Marked old k → Marked done k
  pub fellows : (k : ℕ) → Marked done k → Marked old k ⊎ ((group_at items k ≡ group_at items j) × (group_at items j ≢ 0))
  pub strangers : (k : ℕ) → Marked old k → group_at items k ≡ group_at items j → group_at items j ≡ 0
