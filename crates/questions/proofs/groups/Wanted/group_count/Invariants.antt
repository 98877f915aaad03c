use Rattle.std.proofs.Common.{ℕ, ◌<◌, ◌≤◌}
use Rattle.questions.specs.Items.{full, items_of}
use Rattle.questions.specs.PartChoices.{Marked}
use Rattle.questions.specs.Tables.{Closed, TakesAtMost}
use Rattle.questions.proofs.groups.Wanted.group_count.Given as goal

abbrev pub invariant-loop-i : goal.invariant-loop-i
invariant-loop-i g l =
    TakesAtMost (items_of g.E.Effect.means full l.self.loads.now.records.now) l.done l.count
    × Closed (items_of g.E.Effect.means full l.self.loads.now.records.now) l.self.flags.now l.done
    × ((k : ℕ) → k < l.i → Marked l.self.flags.now k → Marked l.done k)
    × (l.count ≤ l.i)
