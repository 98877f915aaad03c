use Rattle.std.proofs.Common.{◌≡◌, take}
use Rattle.effect.specs.Sums.{total}
use Rattle.questions.proofs.Marking.{bests}
use Rattle.questions.proofs.permanent.permanent_sum.Given as goal

abbrev pub invariant-loop-record : goal.invariant-loop-record
invariant-loop-record g l = l.sum ≡ total g.E.Effect.means (take l.record-index (bests g.E.Effect.means l.loads.records.now))
