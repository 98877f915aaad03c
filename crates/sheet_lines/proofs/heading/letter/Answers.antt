use Rattle.lines.proofs.Spellings.{spelt, no_text}
use Rattle.sheet_lines.proofs.HeadingForm.{kind_spelling, letter_told}
use Rattle.sheet_lines.proofs.heading.letter.Goals as goal

pub returns-in_err-text : goal.returns-in_err-text
returns-in_err-text c = rw c.from_residual.ensures (no_text (kind_spelling c.args.kind) c.args.blank c.args.tokens.now c.field_text.new.self c.in_err-text.ensures)

pub returns : goal.returns
returns c =
    let told = letter_told c.args.kind c.in_ok-text.text.now c.is_letter.result c.then_some.result c.is_letter.ensures c.then_some.ensures in
    spelt (kind_spelling c.args.kind) c.args.blank c.args.tokens.now c.field_text.new.self _ c.then_some.result c.in_ok-text.ensures told
