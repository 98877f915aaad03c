use Rattle.std.proofs.Common.{◌≡◌, length, take}
use Rattle.effect.specs.Sums.{total}
use Rattle.questions.specs.Items.{items_of}
use Rattle.questions.specs.PartChoices.{worths, chosen}
use Rattle.questions.proofs.rated.Rated.total.Given as goal

abbrev pub invariant-loop-record : goal.invariant-loop-record
invariant-loop-record g l =
    let items = items_of g.E.Effect.means l.self.percents l.self.loads.now.records.now in
    l.sum ≡ total g.E.Effect.means (take (length l.yielded) (worths g.E.Effect.means items (chosen items l.choice)))
