use Rattle.std.proofs.Common.{[], ◌∷◌, pos, ap, ◌∙◌, arith, w64, SFits, rules}
use Rattle.std.proofs.lemmas.List.{at_drop_more, at_drop_all}
use Rattle.std.proofs.lemmas.Int.{to_z-of_z}
use Rattle.lines.specs.Reading.{spaced}
use Rattle.writing.proofs.Onward.{onward_more, onward_all}
use Rattle.writing.proofs.Overlays.{then, so}
use Rattle.load_lines.proofs.load_writer.write_effect.Goals as goal

pub loop-place-preserved : goal.loop-place-preserved
loop-place-preserved g c =
    let zs = g.E.Written.writes.numbers c.args.effect in
    let fits : SFits w64 c.number.result = search rules in
    onward_more c.loop-place.invariant
    (at_drop_more (λ l. spaced g.S.Style.shown l []) zs c.loop-place.place (pos 0) (omega (arith, c.loop-place-test.true, c.count-place-end.ensures, g.met.E.Written.legible.numbers_count c.args.effect)))
    (so (ap (λ z. 32 ∷ g.S.Style.shown z) (to_z-of_z w64 c.number.result fits ∙ c.number.ensures)) (then c.put.ensures c.show.ensures))

pub returns : goal.returns
returns g c =
    let zs = g.E.Written.writes.numbers c.args.effect in
    onward_all c.loop-place.invariant (at_drop_all (λ l. spaced g.S.Style.shown l []) zs c.loop-place.place (omega (arith, c.loop-place-test.false, c.count-place-end.ensures, g.met.E.Written.legible.numbers_count c.args.effect)))
