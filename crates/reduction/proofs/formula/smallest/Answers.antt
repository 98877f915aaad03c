use Rattle.std.proofs.Common.{arith}
use Rattle.reduction.proofs.Least.{smallest_by_root}
use Rattle.reduction.proofs.formula.smallest.Goals as goal

pub returns : goal.returns
returns c = smallest_by_root c.args.bound c.args.share c.root_above.result (omega arith) (omega arith) c.root_above.ensures
