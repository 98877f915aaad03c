use Rattle.std.proofs.Common.{true}
use Rattle.lines.proofs.Spellings.{spelt, no_text}
use Rattle.calls.proofs.EntryForm.{letter_spelling}
use Rattle.calls.proofs.entry.letter.Goals as goal

pub returns-in-err-text : goal.returns-in-err-text
returns-in-err-text c = rw c.from-residual.ensures (no_text letter_spelling true c.args.tokens.now c.field-text.new.self c.in-err-text.ensures)

pub returns : goal.returns
returns c = spelt letter_spelling true c.args.tokens.now c.field-text.new.self _ c.one-byte.result c.in-ok-text.ensures c.one-byte.ensures
