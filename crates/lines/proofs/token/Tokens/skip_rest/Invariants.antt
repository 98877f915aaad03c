use Rattle.std.proofs.Common.{length}
use Rattle.lines.specs.Lexing.{SameText, rest}
use Rattle.lines.proofs.token.Tokens.skip_rest.Given as goal

abbrev pub invariant-loop : goal.invariant-loop
invariant-loop l = SameText l.initial.self l.self

abbrev pub decreases-loop : goal.decreases-loop
decreases-loop l = length (rest l.self)
