use Rattle.std.proofs.Common.{[], take, decimal}
use Rattle.std.specs.Fmt.{IsPlainFormatter, HasWritten}
use Rattle.lines.specs.Reading.{spaced}
use Rattle.calls.proofs.record_line.show_numbers.Given as goal

abbrev pub invariant-loop-n : goal.invariant-loop-n
invariant-loop-n g l = IsPlainFormatter l.initial.f → HasWritten g.W.Write.write_str_gives l.initial.f (spaced decimal (take l.n-index l.numbers) []) l.f
