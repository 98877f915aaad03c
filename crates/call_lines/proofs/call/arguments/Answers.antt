use Rattle.std.proofs.Common.{None, sym, subst}
use Rattle.lines.specs.Reading.{Anything, Reads}
use Rattle.lines.proofs.Sequences.{no_part}
use Rattle.call_lines.specs.Calls.{OfName, arguments_end}
use Rattle.call_lines.proofs.CallForm.{asking}
use Rattle.call_lines.proofs.call.arguments.Goals as goal

pub returns-in_err-line_end-in-Ask : goal.returns-in_err-line_end-in-Ask
returns-in_err-line_end-in-Ask g c =
    let w = g.E.Written.writes in
    rw c.from_residual-in_err-line_end-in-Ask.ensures (subst (λ m. Reads (OfName w m) (arguments_end w) Anything c.args.tokens.now None c.line_end.new.self) (sym c.in-Ask.is)
    (no_part (asking w c.in-Ask.question) Anything c.args.tokens.now c.line_end.new.self c.in_err-line_end-in-Ask.ensures))
