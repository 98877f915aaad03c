use Rattle.combination.proofs.Computing.{permanent_is}
use Rattle.combination.proofs.Ranges.{in_range}
use Rattle.combination.proofs.choice.Picked.permanent.Goals as goal

pub returns : goal.returns
returns g c ruled =
    let o = g.E.Effect.means in
    permanent_is o c.args.self.now.pick c.args.self.now.of.now _ _ c.factor.ensures c.weighted.ensures (in_range o _ ruled)
