use Rattle.std.proofs.Common.{[], ◌∷◌, ◌++◌, decimal, ap, ◌∙◌, append_assoc}
use Rattle.loads.specs.Letters.{letter_of}
use Rattle.lines.specs.Reading.{spaced}
use Rattle.writing.proofs.Overlays.{then, so}
use Rattle.answer_lines.specs.Lines.{details}
use Rattle.lines.proofs.Rows.{spaced_append}
use Rattle.answer_lines.proofs.sections.Section.write_line.Goals as goal

pub returns : goal.returns
returns g c =
    let r = c.args.line.now.of.now in
    let ds = details c.args.self (r, c.args.line.now.pick) in
    so
    (append_assoc (decimal r.number) (32 ∷ (letter_of r.kind ∷ [])) (spaced decimal ds [] ++ (10 ∷ [])) ∙ ap (λ l. decimal r.number ++ (32 ∷ (letter_of r.kind ∷ l))) (spaced_append decimal ds [] (10 ∷ [])))
    (then c.start.ensures (then c.write_details.ensures c.put.ensures))
