use Rattle.lines.proofs.Sequences.{no_first, no_second}
use Rattle.load_lines.proofs.LoadForm as form
use Rattle.load_lines.proofs.reading.load_line.Goals as goal

pub returns-in_err-fields : goal.returns-in_err-fields
returns-in_err-fields g c =
    let q = form.load_line g.E.Written.writes g.met.E.Written.legible in
    rw c.from_residual.ensures (no_first q c.args.tokens.now c.fields.new.self c.in_err-fields.ensures)

pub returns-in_err-effect : goal.returns-in_err-effect
returns-in_err-effect g c =
    let q = form.load_line g.E.Written.writes g.met.E.Written.legible in
    rw c.from_residual-in_err-effect.ensures (no_second q c.args.tokens.now c.fields.new.self c.effect_line.new.tokens c.in_ok-fields.fields c.in_ok-fields.ensures c.in_err-effect.ensures)
