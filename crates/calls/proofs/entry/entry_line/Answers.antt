use Rattle.lines.proofs.Sequences.{no_first, no_second}
use Rattle.calls.proofs.EntryForm as form
use Rattle.calls.proofs.entry.entry_line.Goals as goal

pub returns-in_err-number : goal.returns-in_err-number
returns-in_err-number g c =
    let q = form.entry_line g.E.Written.writes g.met.E.Written.legible in
    rw c.from_residual.ensures (no_first q c.args.tokens.now c.start.new.tokens c.in_err-number.ensures)

pub returns-in_err-load : goal.returns-in_err-load
returns-in_err-load g c =
    let q = form.entry_line g.E.Written.writes g.met.E.Written.legible in
    rw c.from_residual-in_err-load.ensures (no_second q c.args.tokens.now c.start.new.tokens c.load_line.new.tokens (c.in_ok-number.number, c.in_ok-number.letter) c.in_ok-number.ensures c.in_err-load.ensures)
