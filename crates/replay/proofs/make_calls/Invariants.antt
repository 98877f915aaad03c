use Rattle.std.proofs.Common.{length}
use Rattle.lines.specs.Lexing.{rest}
use Rattle.replay.proofs.make_calls.Given as goal

-- what is left of the text
abbrev pub decreases-loop-tokens : goal.decreases-loop-tokens
decreases-loop-tokens g l = length (rest l.tokens)
