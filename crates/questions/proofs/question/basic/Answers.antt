use Rattle.combination.proofs.Existence.{basic_exists}
use Rattle.questions.proofs.question.basic.Goals as goal

pub returns : goal.returns
returns g c =
    let choice = basic_exists c.args.records.now in
    c.answer.ensures choice.0 choice.1
