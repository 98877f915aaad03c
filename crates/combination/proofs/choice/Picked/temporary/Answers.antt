use Rattle.std.proofs.Common.{ap}
use Rattle.combination.specs.Choices.{number_or_0, role}
use Rattle.combination.specs.Computing.{by_role}
use Rattle.combination.proofs.Computing.{temporary_is}
use Rattle.combination.proofs.Ranges.{in_range, range_of}
use Rattle.combination.proofs.choice.Picked.temporary.Goals as goal

pub returns : goal.returns
returns g c ruled most =
    let o = g.E.Effect.means in
    let f = c.reduction_of.ensures in
    temporary_is o c.args.self.now.pick c.args.self.now.of.now (by_role c.args.percents) _ _ _ _ _ _ (ap number_or_0 c.role.ensures) c.at.ensures (f.value (range_of _ _ _ _ ruled.reduction)) f.most (most (role c.args.self.now.pick)) c.saturating_mul-weight.ensures c.is_taken.ensures c.weighted.ensures (in_range o _ ruled)
