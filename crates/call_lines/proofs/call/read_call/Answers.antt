use Rattle.lines.proofs.Sequences.{line}
use Rattle.call_lines.proofs.CallForm.{call_form, after_name}
use Rattle.call_lines.proofs.call.read_call.Goals as goal

pub returns : goal.returns
returns g c =
    let w = g.E.Written.writes in
    let all = after_name w c.args.tokens.now c.word_field.new.tokens c.arguments.new.tokens c.in_ok-name.name c.arguments.result c.in_ok-name.ensures c.arguments.ensures in
    line (call_form w g.met.E.Written.legible) c.args.tokens.now c.arguments.new.tokens c.arguments.result all
