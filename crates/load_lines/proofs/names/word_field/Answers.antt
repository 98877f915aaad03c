use Rattle.lines.proofs.Spellings.{spelt, no_text}
use Rattle.load_lines.proofs.WordFields.{word_spelling, word_spelt}
use Rattle.load_lines.proofs.names.word_field.Goals as goal

pub returns-in_err-text : goal.returns-in_err-text
returns-in_err-text g c = rw c.from_residual.ensures (no_text (word_spelling g.T.Word.word_of g.met.T.Word.lawful) c.args.blank c.args.tokens.now c.field_text.new.self c.in_err-text.ensures)

pub returns : goal.returns
returns g c =
    let word = g.T.Word.word_of in
    spelt (word_spelling word g.met.T.Word.lawful) c.args.blank c.args.tokens.now c.field_text.new.self _ c.from_word.result c.in_ok-text.ensures (word_spelt word _ c.from_word.result c.from_word.ensures)
