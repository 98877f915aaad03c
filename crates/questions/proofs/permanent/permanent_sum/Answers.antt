use Rattle.std.proofs.Common.{ap, ◌∙◌, arith, take_all}
use lib.ListN.{length-map}
use Rattle.effect.specs.Sums.{total}
use Rattle.questions.specs.Parts.{fixed, best_factor}
use Rattle.questions.proofs.Marking.{bests, bests_total, fixed_turn}
use Rattle.questions.proofs.permanent.permanent_sum.Goals as goal

pub loop-record-preserved : goal.loop-record-preserved
loop-record-preserved g c = fixed_turn g.met.E.Effect.lawful c.args.loads.now.records.now c.args.loads.now.kept c.loop-record.record-index c.record-item.result c.permanent_part.result c.loop-record.sum c.sum-sum.result c.loop-record-test.true c.record-item.is c.permanent_part.ensures c.loop-record.invariant c.sum-sum.ensures

pub returns : goal.returns
returns g c =
    let e = g.E.Effect.means in
    let rs = c.args.loads.now.records.now in
    c.loop-record.invariant ∙ ap (total e) (take_all c.loop-record.record-index (bests e rs) (omega (arith, c.loop-record-test.false, length-map rs (λ r. fixed e r.kind (best_factor e r) r)))) ∙ bests_total e rs
