use Rattle.std.proofs.Common.{Some, None, decimal, subst}
use lib.ListN.{length-replicate}
use Rattle.lines.specs.Numeral.{Short}
use Rattle.lines.specs.Reading.{EndsAfter, Reads, Row, fields_of}
use Rattle.lines.proofs.FirstRows.{line_form, line_sequence}
use Rattle.lines.proofs.Sequences.{no_second, both, line}
use Rattle.lines.proofs.token.Tokens.numbers.Goals as goal

pub returns-in_err-line_end : goal.returns-in_err-line_end
returns-in_err-line_end g c =
    let row = subst (λ n. Reads (Row Short n) (fields_of decimal) (EndsAfter n) c.args.self.now (Some c.row_into.new.out) c.row_into.new.self) (length-replicate g.row.K 0) c.in_ok-row_into.ensures in
    rw c.from_residual-in_err-line_end.ensures
    (line (line_form g.row.K) c.args.self.now c.line_end.new.self None (no_second (line_sequence g.row.K) c.args.self.now c.row_into.new.self c.line_end.new.self c.row_into.new.out row c.in_err-line_end.ensures))

pub returns : goal.returns
returns g c =
    let row = subst (λ n. Reads (Row Short n) (fields_of decimal) (EndsAfter n) c.args.self.now (Some c.row_into.new.out) c.row_into.new.self) (length-replicate g.row.K 0) c.in_ok-row_into.ensures in
    line (line_form g.row.K) c.args.self.now c.line_end.new.self (Some c.row_into.new.out)
    (both (line_sequence g.row.K) c.args.self.now c.row_into.new.self c.line_end.new.self c.row_into.new.out tt row c.in_ok-line_end.ensures)
