use Rattle.std.proofs.Common.{None}
use Rattle.lines.proofs.Sequences.{no_first, both, line}
use Rattle.calls.proofs.HeaderForm.{header, header_form}
use Rattle.calls.proofs.header.read_header.Goals as goal

pub returns-in_err-names : goal.returns-in_err-names
returns-in_err-names c =
    let none = no_first header c.args.tokens.now c.names_fields.new.tokens c.in_err-names.ensures in
    rw c.from_residual.ensures (line header_form c.args.tokens.now c.names_fields.new.tokens None none)

pub returns : goal.returns
returns c = line header_form _ _ _ (both header c.args.tokens.now c.names_fields.new.tokens c.last_field.new.self c.in_ok-names.names c.in_ok-places.places c.in_ok-names.ensures c.in_ok-places.ensures)
