use Rattle.std.proofs.Common.{length}
use Rattle.lines.specs.Numeral.{Legible, numeral}
use Rattle.lines.proofs.SpacedRows.{SpacedSofar}
use Rattle.lines.proofs.token.Tokens.fields_into.Given as goal

-- so many numbers are read; where that is all of them, they are the row
abbrev pub invariant-loop-i : goal.invariant-loop-i
invariant-loop-i g l = SpacedSofar (Legible g.N.Numeral.value) (numeral g.N.Numeral.value) (length l.initial.out) l.i l.out l.initial.self l.self
