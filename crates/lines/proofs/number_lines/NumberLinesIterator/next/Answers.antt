use Rattle.std.proofs.Common.{length, ap, arith, rules}
use Rattle.lines.specs.Lexing.{rest}
use Rattle.lines.proofs.Lengths.{line_longer}
use Rattle.lines.proofs.number_lines.NumberLinesIterator.next.Goals as goal
use Rattle.std.proofs.iter.Next.{firm}

pub returns-clause-goes : goal.returns-clause-goes
returns-clause-goes g c = firm ((tt, tt, omega (arith, ap length c.in-Some.ensures.reads.1, line_longer c.in-Some.numbers (rest c.numbers.new.self)))) (λ h. search rules)
