use Rattle.std.proofs.Common.{[], ◌∷◌, ◌++◌, ap}
use Rattle.writing.specs.Writing.{signed_fixed8}
use Rattle.writing.proofs.Overlays.{then, so}
use Rattle.lines.proofs.Rows.{spaced_append}
use Rattle.answer_lines.proofs.answers.write_head.Goals as goal

pub returns : goal.returns
returns g c =
    let zs = g.E.Written.writes.numbers c.args.effect in
    so (ap (λ l. c.args.word.now ++ l) (spaced_append signed_fixed8 zs [] (10 ∷ []))) (then c.word.ensures (then c.write_effect.ensures c.put.ensures))
