use Rattle.std.proofs.Common.{rules}
use Rattle.effect.proofs.Comparisons.{not_counted}
use Rattle.effect.proofs.sums.multiple_if.Goals as goal

pub returns-in-None : goal.returns-in-None
returns-in-None g c = not_counted g.met.E.Effect.lawful c.args.effect c.args.taken _ (search rules) c.zero.ensures
