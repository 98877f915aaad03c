use Rattle.std.proofs.Common.{◌≤◌}
use Rattle.lines.specs.Fixed.{padded}
use Rattle.writing.proofs.Onward.{Onward}
use Rattle.writing.proofs.writer.Writer.decimals.Given as goal

-- what is left is the last k digits
abbrev pub invariant-loop-k : goal.invariant-loop-k
invariant-loop-k l = (l.k ≤ 8) × Onward l.initial.self l.self (padded l.k l.n) (padded 8 l.n)
