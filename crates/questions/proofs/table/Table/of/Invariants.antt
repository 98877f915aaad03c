use Rattle.std.proofs.Common.{◌≡◌, ℕ, ◌<◌, ◌≤◌}
use Rattle.questions.specs.PartChoices.{Marked}
use Rattle.questions.specs.Tables.{TableBest, Closed}
use Rattle.questions.specs.Items.{items_of}
use Rattle.questions.proofs.table.Table.of.Given as goal

abbrev pub invariant-loop-i : goal.invariant-loop-i
invariant-loop-i g l =
    TableBest g.E.Effect.means (items_of g.E.Effect.means l.rated.percents l.rated.loads.now.records.now) l.table
    × Closed (items_of g.E.Effect.means l.rated.percents l.rated.loads.now.records.now) l.wanted l.table.done
    × ((k : ℕ) → k < l.i → Marked l.wanted k → Marked l.table.done k)
    × ((k : ℕ) → Marked l.table.done k → Marked l.wanted k)
    × (l.table.groups ≤ l.i)
    × (l.table.limit ≡ l.limit)
