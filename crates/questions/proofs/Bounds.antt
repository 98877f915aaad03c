-- How many records a choice can take: one of each group at most.
use Rattle.std.proofs.Common.{◌≡◌, ℕ, ◌+◌, ◌<◌, ◌≤◌, Bool, true, List, length, get_or, set, Option, refl, ⊎_elim, arith, None}
use Rattle.effect.specs.Laws.{Operations, Laws}
use Rattle.questions.specs.BestParts.{Opens, BestFrom}
use Rattle.questions.specs.Items.{Item}
use Rattle.questions.specs.PartChoices.{Marked, taken, Light}
use Rattle.questions.specs.Rows.{RowBest}
use Rattle.questions.specs.Tables.{TakesAtMost, TableBest}
use Rattle.questions.specs.declared.choice.PartChoice.{PartChoice}
use Rattle.questions.specs.declared.row.Row.{Row}
use Rattle.questions.specs.declared.table.Table.{Table}
use Rattle.questions.proofs.Bests.{sound_kept}
use Rattle.questions.proofs.Ends.{taken_inside}
use Rattle.questions.proofs.Steps.{out_or_taken, from_skipped, from_struck}

pub bound_more : {V : Type 0} (items : List (Item V)) (flags : List Bool) (n m : ℕ) → n ≤ m → TakesAtMost items flags n → TakesAtMost items flags m
bound_more items flags n m h b c l s ps f = omega (arith, b c l s ps f)

-- the wanted records are done
pub bound_covered : {V : Type 0} (items : List (Item V)) (wanted done : List Bool) (n : ℕ) → ((k : ℕ) → k < length items → Marked wanted k → Marked done k) → TakesAtMost items done n → TakesAtMost items wanted n
bound_covered items wanted done n all b c l s ps f = b c l s ps (record { valid = f.valid; within = λ j t. all j (omega (arith, taken_inside ps j t, f.valid.parallel)) (f.within j t) })

-- room for one group more
pub best_raised : {V : Type 0} {n : Operations V} {items : List (Item V)} (t : Table) → t.groups < 32 → TableBest n items t → TableBest n items (record { rows = t.rows; done = t.done; groups = t.groups + 1; limit = t.limit })
best_raised {items = items} t room best = record {
  size = best.size;
  flags = best.flags;
  few = omega arith;
  rows_few = best.rows_few;
  bound = bound_more items t.done t.groups (t.groups + 1) (omega arith) best.bound;
  each = best.each;
}

-- a choice without record j, or with it on top of one from `old`
pub bound_offered : {V : Type 0} {items : List (Item V)} {old done : List Bool} {j : ℕ} → Opens items old done j → (n : ℕ) → TakesAtMost items old n → TakesAtMost items done (n + 1) → TakesAtMost items (set done j true) (n + 1)
bound_offered {V} {items} {old} {done} {j} opens n prior kept c l s ps f =
    ⊎_elim
    (λ (out : get_or ps j None ≡ None). kept c l s ps (from_skipped opens f out))
    (λ (t : taken (get_or ps j None) ≡ 1). let g = from_struck opens (get_or ps j None) t f refl in omega (arith, prior _ _ _ _ g.3, g.0))
    (out_or_taken (get_or ps j None))

-- a row of more records than there are groups stays
module _ {V : Type 0} {n : Operations V} (laws : Laws n) {items : List (Item V)} (light : Light n items) {old done : List Bool} {j : ℕ} (opens : Opens items old done j) (m : ℕ) (bound : TakesAtMost items (set done j true) m) where
  pub row_past : (c : ℕ) (row : Row) → m < c → RowBest n items done c row → RowBest n items (set done j true) c row
  row_past c row h best = record {
    neither = keep 0 0 row.neither best.neither;
    leading = keep 1 0 row.leading best.leading;
    second = keep 0 1 row.second best.second;
    both = keep 1 1 row.both best.both;
  }
    where
      keep : (l s : ℕ) (o : Option PartChoice) → BestFrom n items done c l s o → BestFrom n items (set done j true) c l s o
      keep l s o b = record { sound = sound_kept laws light opens c l s o b.sound; most = λ qs f. absurd (omega (arith, bound c l s qs f)) }
