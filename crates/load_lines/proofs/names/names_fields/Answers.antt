use Rattle.lines.proofs.Sequences.{no_second}
use Rattle.load_lines.proofs.NamesForm as form
use Rattle.load_lines.proofs.names.names_fields.Goals as goal

pub returns-in_err-effect : goal.returns-in_err-effect
returns-in_err-effect c = rw c.from_residual-in_err-effect.ensures (no_second form.names c.args.tokens.now c.word_field.new.tokens c.word_field-2.new.tokens c.in_ok-norm.norm c.in_ok-norm.ensures c.in_err-effect.ensures)
