use Rattle.std.proofs.Common.{length, ap, arith}
use Rattle.lines.specs.Lexing.{rest}
use Rattle.calls.proofs.ChangeForm.{change_longer}
use Rattle.replay.proofs.make_calls.Goals as goal

pub loop-tokens-smaller : goal.loop-tokens-smaller
loop-tokens-smaller g c =
    let read = c.in-Some.ensures.reads in
    omega (arith, ap length read.1, change_longer g.E.Written.writes c.in-Some.change (rest c.read_change.new.tokens))
