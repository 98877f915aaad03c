use Rattle.std.proofs.Common.{⊎_elim}
use Rattle.combination.specs.Existence.{Answerable}
use Rattle.combination.specs.Worst.{NoSpecial}
use Rattle.combination.specs.declared.questions.Question.TheVariants.{WithSpecial}
use Rattle.combination.proofs.Existence.{special_or_none}
use Rattle.questions.proofs.question.with_special.Goals as goal

pub returns : goal.returns
returns g c =
    let rs = c.args.records.now in
    λ some. ⊎_elim
    (λ (choice : Answerable WithSpecial rs). c.answer.ensures choice.0 choice.1)
    (λ (none : NoSpecial rs). absurd (some none))
    (special_or_none rs)
