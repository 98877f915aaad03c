use Rattle.std.proofs.Common.{rules}
use Rattle.combination.proofs.Computing.{weighted_is}
use Rattle.combination.proofs.contribution.weighted.Goals as goal

pub returns : goal.returns
returns g c = weighted_is g.E.Effect.means c.args.effect _ c.args.factor c.args.weight c.args.taken _ _ c.saturating_mul.ensures (search rules) c.multiple_if.ensures
