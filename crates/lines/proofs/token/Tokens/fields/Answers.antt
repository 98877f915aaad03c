use Rattle.std.proofs.Common.{None, decimal, subst}
use lib.ListN.{length-replicate}
use Rattle.lines.specs.Numeral.{Short}
use Rattle.lines.specs.Reading.{EndsAfter, Reads, Row, spaced}
use Rattle.lines.proofs.token.Tokens.fields.Goals as goal

pub returns-in_err-fields_into : goal.returns-in_err-fields_into
returns-in_err-fields_into g c =
    rw c.from_residual.ensures (subst (λ n. Reads (Row Short n) (spaced decimal) (EndsAfter n) c.args.self.now None c.fields_into.new.self) (length-replicate g.row.K 0) c.in_err-fields_into.ensures)
