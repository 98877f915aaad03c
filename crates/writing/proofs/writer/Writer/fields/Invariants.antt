use Rattle.std.proofs.Common.{[], drop, decimal}
use Rattle.lines.specs.Reading.{spaced}
use Rattle.writing.proofs.Onward.{Onward}
use Rattle.writing.proofs.writer.Writer.fields.Given as goal

abbrev pub invariant-loop-n : goal.invariant-loop-n
invariant-loop-n l = Onward l.initial.self l.self (spaced decimal (drop l.n-index l.numbers) []) (spaced decimal l.numbers [])
