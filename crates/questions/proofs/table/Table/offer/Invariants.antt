use Rattle.std.proofs.Common.{◌≡◌}
use Rattle.questions.proofs.Offers.{Offering}
use Rattle.questions.specs.Items.{items_of}
use Rattle.questions.proofs.table.Table.offer.Given as goal

abbrev pub invariant-loop-count : goal.invariant-loop-count
invariant-loop-count g l =
    (l.self.done ≡ l.initial.self.done)
    × (l.self.groups ≡ l.initial.self.groups)
    × (l.self.limit ≡ l.initial.self.limit)
    × Offering g.E.Effect.means (items_of g.E.Effect.means l.rated.percents l.rated.loads.now.records.now) l.initial.self.rows l.self.rows l.initial.self.done l.j l.count
