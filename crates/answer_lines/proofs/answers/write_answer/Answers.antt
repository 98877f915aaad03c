use Rattle.std.proofs.Common.{[], ◌∷◌, ◌++◌, ap, ◌∙◌, append_assoc}
use Rattle.combination.specs.Choices.{lines}
use Rattle.combination.specs.Words.{question_word}
use Rattle.lines.specs.Reading.{spaced}
use Rattle.writing.specs.Writing.{signed_fixed8}
use Rattle.writing.proofs.Overlays.{then, so}
use Rattle.answer_lines.specs.Lines.{choice_text}
use Rattle.lines.proofs.Rows.{spaced_append}
use Rattle.answer_lines.proofs.answers.write_answer.Goals as goal

pub returns : goal.returns
returns g c =
    let norm = g.M.Norm.percentages c.args.norm.now in
    let zs = g.E.Written.writes.numbers c.args.answer.now.effect in
    let choice = choice_text norm (lines c.args.records.now c.args.answer.now.picks) in
    so (append_assoc (question_word c.args.question) (spaced signed_fixed8 zs (10 ∷ [])) choice ∙ ap (λ l. question_word c.args.question ++ l) (spaced_append signed_fixed8 zs (10 ∷ []) choice))
    (then (so (ap (λ w. w ++ spaced signed_fixed8 zs (10 ∷ [])) (c.as_bytes.ensures.value ∙ c.word.ensures)) c.write_head.ensures) (c.write_choice.ensures norm c.table.ensures))
