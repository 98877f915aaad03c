use Rattle.std.proofs.Common.{◌-◌, arith}
use Rattle.std.proofs.Math.Nat.{one-le-pow}
use Rattle.writing.proofs.Digits.{padded_next, padded_none}
use Rattle.writing.proofs.Onward.{onward_more, onward_all}
use Rattle.writing.proofs.writer.Writer.decimals.Goals as goal

pub loop-k-preserved : goal.loop-k-preserved
loop-k-preserved c =
    (omega arith, onward_more c.loop-k.invariant.1 (padded_next c.loop-k.k c.args.n c.pow.result c.loop-k-test.true c.pow.ensures) c.digit.ensures)

pub nonzero_div-n : goal.nonzero_div-n
nonzero_div-n c = omega (arith, c.pow.ensures, one-le-pow (c.loop-k.k - 1) 10 (omega arith))

pub returns : goal.returns
returns c = onward_all c.loop-k.invariant.1 (padded_none c.loop-k.k c.args.n c.loop-k-test.false)
