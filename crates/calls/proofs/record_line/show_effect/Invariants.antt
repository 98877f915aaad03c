use Rattle.std.proofs.Common.{[], take}
use Rattle.std.specs.Fmt.{IsPlainFormatter, HasWritten, signed_decimal}
use Rattle.lines.specs.Reading.{spaced}
use Rattle.calls.proofs.record_line.show_effect.Given as goal

abbrev pub invariant-loop-place : goal.invariant-loop-place
invariant-loop-place g l = IsPlainFormatter l.initial.f → HasWritten g.W.Write.write_str_gives l.initial.f (spaced signed_decimal (take l.place (g.E.Written.writes.numbers l.effect)) []) l.f
