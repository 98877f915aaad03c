use Rattle.std.proofs.Common.{None}
use Rattle.lines.proofs.Sequences.{no_first, no_second, both, line}
use Rattle.sheet_lines.proofs.BodyForm.{body, body_form}
use Rattle.sheet_lines.proofs.bodies.read_body.Goals as goal

pub returns-in_err-number : goal.returns-in_err-number
returns-in_err-number g c =
    let w = g.E.Written.writes in
    let none = no_first (body w) c.args.tokens.now c.number.new.self c.in_err-number.ensures in
    rw c.from_residual.ensures (line (body_form w g.met.E.Written.legible) c.args.tokens.now c.number.new.self None none)

pub returns-in_err-load : goal.returns-in_err-load
returns-in_err-load g c =
    let w = g.E.Written.writes in
    let none = no_second (body w) c.args.tokens.now c.number.new.self c.load_line.new.tokens c.in_ok-number.number c.in_ok-number.ensures c.in_err-load.ensures in
    rw c.from_residual-in_err-load.ensures (line (body_form w g.met.E.Written.legible) c.args.tokens.now c.load_line.new.tokens None none)

pub returns : goal.returns
returns g c =
    let w = g.E.Written.writes in
    line (body_form w g.met.E.Written.legible) _ _ _ (both (body w) c.args.tokens.now c.number.new.self c.load_line.new.tokens c.in_ok-number.number c.in_ok-load.load c.in_ok-number.ensures c.in_ok-load.ensures)
