use Rattle.std.proofs.Common.{[], drop}
use Rattle.lines.specs.Reading.{spaced}
use Rattle.writing.proofs.Onward.{Onward}
use Rattle.load_lines.proofs.load_writer.write_effect.Given as goal

abbrev pub invariant-loop-place : goal.invariant-loop-place
invariant-loop-place g l = Onward l.initial.out l.out (spaced g.S.Style.shown (drop l.place (g.E.Written.writes.numbers l.effect)) []) (spaced g.S.Style.shown (g.E.Written.writes.numbers l.effect) [])
