use Rattle.lines.proofs.Sequences.{no_first}
use Rattle.sheet_lines.proofs.HeadingForm as form
use Rattle.sheet_lines.proofs.HeadingForm.{after_letter}
use Rattle.sheet_lines.proofs.heading.count.Goals as goal

pub returns-in_err-letter : goal.returns-in_err-letter
returns-in_err-letter c = rw c.from_residual.ensures (no_first (form.count c.args.blank c.args.kind) c.args.tokens.now c.letter.new.tokens c.in_err-letter.ensures)

pub returns : goal.returns
returns c = after_letter c.args.blank c.args.kind c.args.tokens.now c.letter.new.tokens c.few.new.tokens c.few.result c.in_ok-letter.ensures c.few.ensures
