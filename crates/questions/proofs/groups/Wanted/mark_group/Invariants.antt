use Rattle.std.proofs.Common.{ℕ, ◌+◌}
use Rattle.questions.specs.Items.{full, items_of}
use Rattle.questions.specs.Tables.{TakesAtMost}
use Rattle.questions.proofs.Groupmates.{Carrying}
use Rattle.questions.proofs.groups.Wanted.mark_group.Given as goal

abbrev pub invariant-loop-j : goal.invariant-loop-j
invariant-loop-j g l =
    Carrying (items_of g.E.Effect.means full l.self.loads.now.records.now) l.self.flags.now l.i l.initial.done l.done l.j
    × ((n : ℕ) → TakesAtMost (items_of g.E.Effect.means full l.self.loads.now.records.now) l.initial.done n → TakesAtMost (items_of g.E.Effect.means full l.self.loads.now.records.now) l.done (n + 1))
