use Rattle.std.proofs.Common.{arith}
use Rattle.questions.proofs.Rules.{weighing_more, weighing_all}
use Rattle.questions.proofs.weights.weigh.Goals as goal

pub loop-k-preserved : goal.loop-k-preserved
loop-k-preserved g c =
    let w = c.in_ok-weights.ensures in
    weighing_more g.E.Effect.means c.args.records.now c.loop-k.weights c.loop-k.k _ c.index-records-k.result (omega arith) c.loop-k-test.true c.index-records-k.is w.0 w.1 c.loop-k.invariant

pub invariant_of-result : goal.invariant_of-result
invariant_of-result g c =
    let w = weighing_all g.E.Effect.means c.args.records.now c.loop-k.weights c.loop-k.k (omega arith) c.loop-k-test.false c.loop-k.invariant in
    record { kept = w.0; weighed = w.1 }
