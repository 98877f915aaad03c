-- The answer where every record is done.
use Rattle.std.proofs.Common.{◌≡◌, ℕ, ◌-◌, ◌<◌, ◌≤◌, min, Bool, List, length, get_or, Some, None, Option, ap, subst, ⊎_elim, arith}
use Rattle.std.proofs.lemmas.List.{get_or_past}
use Rattle.std.proofs.lemmas.Bool.{cases_lt}
use Rattle.effect.specs.Laws.{Operations}
use Rattle.questions.specs.PartChoices.{Marked, taken}
use Rattle.questions.specs.BestParts.{BestFrom}
use Rattle.questions.specs.Tables.{Answers}
use Rattle.questions.specs.declared.choice.PartChoice.{PartChoice}
use Rattle.questions.specs.Items.{Item}
use Rattle.norm.specs.declared.roles.Role.{Role}

-- a pick that takes its record stands in the list
pub taken_inside : (ps : List (Option Role)) (k : ℕ) → taken (get_or ps k None) ≡ 1 → k < length ps
taken_inside ps k t = ⊎_elim (λ h. h) (λ (h : length ps ≤ k). absurd (let z : taken (get_or ps k None) ≡ 0 = ap taken (get_or_past ps k None h) in omega arith)) (cases_lt k (length ps))

module _ {V : Type 0} (n : Operations V) {items : List (Item V)} (wanted : List Bool) {done : List Bool} (all : (k : ℕ) → k < length items → Marked wanted k → Marked done k) (only : (k : ℕ) → Marked done k → Marked wanted k) where
  answer : (k : ℕ) (o : Option PartChoice) → BestFrom n items done k (min 1 k) (min 1 (k - 1)) o → Answers n items wanted k o
  answer k None best = λ qs f. best.most qs (record { valid = f.valid; within = λ j t. all j (omega (arith, taken_inside qs j t, f.valid.parallel)) (f.within j t) })
  answer k (Some p) best = record {
    admissible = record { valid = best.sound.valid; within = λ j t. only j (best.sound.within j t) };
    most = λ qs f. best.most qs (record { valid = f.valid; within = λ j t. all j (omega (arith, taken_inside qs j t, f.valid.parallel)) (f.within j t) });
  }

  pub answers : (k l s : ℕ) (o : Option PartChoice) → l ≡ min 1 k → s ≡ min 1 (k - 1) → BestFrom n items done k l s o → Answers n items wanted k o
  answers k l s o el es best =
      answer k o (subst (λ (s' : ℕ). BestFrom n items done k (min 1 k) s' o) es (subst (λ (l' : ℕ). BestFrom n items done k l' s o) el best))
