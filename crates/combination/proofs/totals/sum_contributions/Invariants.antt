use Rattle.std.proofs.Common.{◌≡◌, length, take}
use Rattle.effect.specs.Sums.{total}
use Rattle.combination.specs.Choices.{lines_of}
use Rattle.combination.specs.Computing.{Bounded, by_table}
use Rattle.combination.specs.Sound.{Sound}
use Rattle.combination.specs.Worst.{contributions}
use Rattle.combination.proofs.totals.sum_contributions.Given as goal

abbrev pub invariant-loop-of : goal.invariant-loop-of
invariant-loop-of g l =
    let o = g.E.Effect.means in
    Sound o l.choice.records.now → Bounded l.table.long → Bounded l.table.short → l.sum ≡ total o (take (length l.yielded) (contributions o (by_table l.table) 0 0 (lines_of l.choice)))
