use Rattle.std.proofs.Common.{◌+◌}
use Rattle.questions.specs.Engine.{Covers, Prepared, Since}
use Rattle.questions.specs.Promises.{OneKind}
use Rattle.questions.proofs.worst.Search.across.Given as goal

abbrev pub invariant-loop-short : goal.invariant-loop-short
invariant-loop-short g l =
    Prepared g.E.Effect.means l.self.loads.now.records.now l.tables
    × (OneKind l.self.loads.now.records.now → Covers g.E.Effect.means (g.M.Norm.percentages l.self.norm.now) l.self.question l.self.loads.now.records.now (Since l.long (l.short + 1)) l.best)
