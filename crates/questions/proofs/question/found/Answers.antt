use Rattle.std.proofs.Common.{List, sym, subst}
use Rattle.combination.specs.Choices.{Admissible}
use Rattle.combination.specs.declared.picks.Pick.{Pick}
use Rattle.loads.specs.declared.records.Record.{Record}
use Rattle.questions.specs.Promises.{OneKind}
use Rattle.questions.proofs.question.found.Goals as goal

pub returns-in_err-loads : goal.returns-in_err-loads
returns-in_err-loads g c = rw c.from_residual.ensures (λ sound one picks a. c.in_err-loads.ensures sound)

pub returns-in_err-best : goal.returns-in_err-best
returns-in_err-best g c =
    let same = c.in_ok-loads.ensures in
    rw c.from_residual-in_err-best.ensures (λ sound one. subst (λ (rs : List (Record g.row.E.Denot)). (picks : List Pick) → Admissible c.args.question rs picks → ⊥) same (c.in_err-best.ensures (subst OneKind (sym same) one)))
