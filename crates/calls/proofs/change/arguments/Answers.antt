use Rattle.std.proofs.Common.{None, sym, subst}
use Rattle.lines.specs.Reading.{Anything, Reads}
use Rattle.lines.proofs.Sequences.{no_part}
use Rattle.calls.specs.Changes.{OfName, arguments_end}
use Rattle.calls.proofs.ChangeForm.{enter, alter}
use Rattle.calls.proofs.change.arguments.Goals as goal

pub returns-in_err-entry-in-Enter : goal.returns-in_err-entry-in-Enter
returns-in_err-entry-in-Enter g c =
    let w = g.E.Written.writes in
    rw c.from_residual.ensures (subst (λ m. Reads (OfName w m) (arguments_end w) Anything c.args.tokens.now None c.entry_line.new.tokens) (sym c.in-Enter.is)
    (no_part (enter w) Anything c.args.tokens.now c.entry_line.new.tokens c.in_err-entry-in-Enter.ensures))

pub returns-in_err-entry-in-Alter : goal.returns-in_err-entry-in-Alter
returns-in_err-entry-in-Alter g c =
    let w = g.E.Written.writes in
    rw c.from_residual-in_err-entry-in-Alter.ensures (subst (λ m. Reads (OfName w m) (arguments_end w) Anything c.args.tokens.now None c.entry_line-in-Alter.new.tokens) (sym c.in-Alter.is)
    (no_part (alter w) Anything c.args.tokens.now c.entry_line-in-Alter.new.tokens c.in_err-entry-in-Alter.ensures))
