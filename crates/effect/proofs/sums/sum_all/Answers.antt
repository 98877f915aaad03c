use Rattle.std.proofs.Common.{ap, ◌∙◌, arith, take_all}
use Rattle.effect.specs.Sums.{total}
use Rattle.effect.proofs.Totals.{total_step, summed}
use Rattle.effect.proofs.sums.sum_all.Goals as goal

pub loop-x-preserved : goal.loop-x-preserved
loop-x-preserved g c =
    (omega arith, λ h. total_step g.met.E.Effect.lawful c.args.effects.now c.loop-x.x-index c.x-item.result c.loop-x.sum c.sum-sum.result c.loop-x-test.true c.x-item.is h (c.loop-x.invariant.1 h) c.sum-sum.ensures)

pub returns : goal.returns
returns g c h =
    summed g.met.E.Effect.lawful c.args.effects.now _ h
    (c.loop-x.invariant.1 h ∙ ap (total g.E.Effect.means) (take_all _ _ c.loop-x-test.false))
