use Rattle.effect.proofs.Comparisons.{ordered}
use Rattle.effect.proofs.orders.ordered.Goals as goal

pub returns : goal.returns
returns g c = ordered g.met.E.Effect.lawful c.args.a c.args.b _ c.compare.ensures
