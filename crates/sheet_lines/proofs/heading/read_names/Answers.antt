use Rattle.std.proofs.Common.{None}
use Rattle.lines.proofs.Sequences.{no_first, no_second, both, line}
use Rattle.sheet_lines.proofs.HeadingForm.{names, names_line_lem}
use Rattle.sheet_lines.proofs.heading.read_names.Goals as goal

pub returns-in_err-names : goal.returns-in_err-names
returns-in_err-names c =
    let none = no_first names c.args.tokens.now c.names_fields.new.tokens c.in_err-names.ensures in
    rw c.from_residual.ensures (line names_line_lem c.args.tokens.now c.names_fields.new.tokens None none)

pub returns-in_err-line_end : goal.returns-in_err-line_end
returns-in_err-line_end c =
    let none = no_second names c.args.tokens.now c.names_fields.new.tokens c.line_end.new.self c.in_ok-names.names c.in_ok-names.ensures c.in_err-line_end.ensures in
    rw c.from_residual-in_err-line_end.ensures (line names_line_lem c.args.tokens.now c.line_end.new.self None none)

pub returns : goal.returns
returns c = line names_line_lem _ _ _ (both names c.args.tokens.now c.names_fields.new.tokens c.line_end.new.self c.in_ok-names.names tt c.in_ok-names.ensures c.in_ok-line_end.ensures)
