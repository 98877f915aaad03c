use Rattle.std.proofs.Common.{drop}
use Rattle.sheet_lines.specs.Bodies.{body_lines}
use Rattle.writing.proofs.Onward.{Onward}
use Rattle.sheet_writing.specs.Sheets.{of_kind}
use Rattle.sheet_writing.proofs.bodies.write_kind.Given as goal

abbrev pub invariant-loop-record : goal.invariant-loop-record
invariant-loop-record g l = Onward l.initial.out l.out (body_lines g.E.Written.writes (of_kind l.kind (drop l.record-index l.records))) (body_lines g.E.Written.writes (of_kind l.kind l.records))
