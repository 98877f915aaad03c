use Rattle.std.proofs.Common.{◌≡◌}
use Rattle.questions.specs.Tables.{TableBest}
use Rattle.questions.proofs.Groupmates.{Carrying}
use Rattle.questions.specs.Items.{items_of}
use Rattle.questions.proofs.table.Table.carry.Given as goal

abbrev pub invariant-loop-j : goal.invariant-loop-j
invariant-loop-j g l =
    TableBest g.E.Effect.means (items_of g.E.Effect.means l.rated.percents l.rated.loads.now.records.now) l.self
    × Carrying (items_of g.E.Effect.means l.rated.percents l.rated.loads.now.records.now) l.wanted l.i l.initial.self.done l.self.done l.j
    × (l.self.groups ≡ l.initial.self.groups)
    × (l.self.limit ≡ l.initial.self.limit)
