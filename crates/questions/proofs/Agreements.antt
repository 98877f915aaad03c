-- Only the percentages of the roles that a choice gives count.
use Rattle.std.proofs.Common.{◌≡◌, ℕ, ◌+◌, ◌-◌, ◌≤◌, min, List, [], ◌∷◌, refl, ap, ap₂, arith, Some, None, Option}
use Rattle.effect.specs.Laws.{Operations}
use Rattle.questions.specs.PartChoices.{leads, seconds, worth, comes}
use Rattle.questions.specs.PartChoices.{taken as takes, count as tally}
use Rattle.questions.specs.Items.{share, item_of, items_of}
use Rattle.combination.specs.declared.percents.Percents.{Percents}
use Rattle.norm.specs.declared.roles.Role.{Role}
use Rattle.norm.specs.declared.roles.Role.TheVariants.{Leading, Second, Other}
use Rattle.loads.specs.declared.records.Record.{Record}
use Rattle.questions.specs.Parts.{Agrees}

abbrev others : Option Role → ℕ
others None = 0
others (Some Leading) = 0
others (Some Second) = 0
others (Some Other) = 1

takes_sum : (xs : List (Option Role)) → tally takes xs ≡ tally leads xs + tally seconds xs + tally others xs
takes_sum [] = refl
takes_sum (x ∷ xs) = omega (arith, one x, takes_sum xs)
  where
    one : (x : Option Role) → takes x ≡ leads x + seconds x + others x
    one None = refl
    one (Some Leading) = refl
    one (Some Second) = refl
    one (Some Other) = refl

module _ {V : Type 0} (e : Operations V) (s g : Percents) where
  worth_agree : (r : Record V) (x : Option Role) → (1 ≤ leads x → s.leading ≡ g.leading) → (1 ≤ seconds x → s.second ≡ g.second) → (1 ≤ others x → s.other ≡ g.other) → worth e (item_of e s r) x ≡ worth e (item_of e g r) x
  worth_agree r None a b c = refl
  worth_agree r (Some Leading) a b c = ap (share e r) (a (omega arith))
  worth_agree r (Some Second) a b c = ap (share e r) (b (omega arith))
  worth_agree r (Some Other) a b c = ap (share e r) (c (omega arith))

  comes_same : (rs : List (Record V)) (xs : List (Option Role)) → (1 ≤ tally leads xs → s.leading ≡ g.leading) → (1 ≤ tally seconds xs → s.second ≡ g.second) → (1 ≤ tally others xs → s.other ≡ g.other) → comes e (items_of e s rs) xs ≡ comes e (items_of e g rs) xs
  comes_same [] xs a b c = refl
  comes_same (r ∷ rs) [] a b c = refl
  comes_same (r ∷ rs) (x ∷ xs) a b c = ap₂ e.plus
      (worth_agree r x (λ h. a (omega arith)) (λ h. b (omega arith)) (λ h. c (omega arith)))
      (comes_same rs xs (λ h. a (omega arith)) (λ h. b (omega arith)) (λ h. c (omega arith)))

  pub comes_agree : (n : ℕ) → Agrees n s g → (rs : List (Record V)) (xs : List (Option Role)) → tally takes xs ≡ n → tally leads xs ≡ min 1 n → tally seconds xs ≡ min 1 (n - 1) → comes e (items_of e s rs) xs ≡ comes e (items_of e g rs) xs
  comes_agree n a rs xs t l m = comes_same rs xs (λ h. a.leading (omega arith)) (λ h. a.second (omega arith)) (λ h. a.other (omega (arith, takes_sum xs)))
