use Rattle.std.proofs.Common.{pos, refl, ◌∙◌, arith, w64, SFits, rules}
use Rattle.std.specs.Fmt.{signed_decimal}
use Rattle.std.proofs.lemmas.Int.{to_z-of_z}
use Rattle.calls.proofs.Listing.{put_none, put_next, put_all}
use Rattle.calls.proofs.record_line.show_effect.Goals as goal

pub loop-place-init : goal.loop-place-init
loop-place-init g c plain = put_none g.W.Write.write_str_gives c.args.f.now plain

pub loop-place-preserved : goal.loop-place-preserved
loop-place-preserved g c plain =
    let so_far = c.loop-place.invariant plain in
    let zs = g.E.Written.writes.numbers c.args.effect in
    let fits : SFits w64 c.number-z.result = search rules in
    put_next g.W.Write.write_str_gives c.args.f.now signed_decimal c.loop-place.f c.write.new.self zs c.loop-place.place (pos 0) _
    (omega (arith, c.loop-place-test.true, c.count-place-end.ensures, g.met.E.Written.legible.numbers_count c.args.effect))
    (to_z-of_z w64 c.number-z.result fits ∙ c.number-z.ensures) so_far (c.in_ok-write.ensures.writes so_far.plain refl)

pub returns : goal.returns
returns g c plain ok =
    put_all g.W.Write.write_str_gives c.args.f.now signed_decimal c.loop-place.f (g.E.Written.writes.numbers c.args.effect) c.loop-place.place
    (omega (arith, c.loop-place-test.false, c.count-place-end.ensures, g.met.E.Written.legible.numbers_count c.args.effect)) (c.loop-place.invariant plain)
