use Rattle.lines.proofs.Lasts.{last_field_lem}
use Rattle.lines.proofs.Sequences.{no_second}
use Rattle.lines.proofs.token.Tokens.last_field.Goals as goal

pub returns-in_err-line_end : goal.returns-in_err-line_end
returns-in_err-line_end c = rw c.from_residual-in_err-line_end.ensures (no_second last_field_lem c.args.self.now c.field.new.self c.line_end.new.self c.in_ok-number.number c.in_ok-number.ensures c.in_err-line_end.ensures)
