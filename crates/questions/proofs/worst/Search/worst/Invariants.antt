use Rattle.std.proofs.Common.{◌+◌}
use Rattle.questions.specs.Engine.{Covers, Prepared, Since}
use Rattle.questions.specs.Promises.{OneKind}
use Rattle.questions.proofs.worst.Search.worst.Given as goal

abbrev pub invariant-loop-long : goal.invariant-loop-long
invariant-loop-long g l =
    Prepared g.E.Effect.means l.self.loads.now.records.now l.tables
    × (OneKind l.self.loads.now.records.now → Covers g.E.Effect.means (g.M.Norm.percentages l.self.norm.now) l.self.question l.self.loads.now.records.now (Since (l.long + 1) 0) l.best)
