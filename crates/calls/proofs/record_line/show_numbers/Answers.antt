use Rattle.std.proofs.Common.{decimal, refl}
use Rattle.calls.proofs.Listing.{put_none, put_next, put_all}
use Rattle.calls.proofs.record_line.show_numbers.Goals as goal

pub loop-n-init : goal.loop-n-init
loop-n-init g c plain = put_none g.W.Write.write_str_gives c.args.f.now plain

pub loop-n-preserved : goal.loop-n-preserved
loop-n-preserved g c plain =
    let so_far = c.loop-n.invariant plain in
    put_next g.W.Write.write_str_gives c.args.f.now decimal c.loop-n.f c.write.new.self c.args.numbers.now c.loop-n.n-index 0 _
    c.loop-n-test.true refl so_far (c.in_ok-write.ensures.writes so_far.plain refl)

pub returns : goal.returns
returns g c plain ok = put_all g.W.Write.write_str_gives c.args.f.now decimal c.loop-n.f c.args.numbers.now c.loop-n.n-index c.loop-n-test.false (c.loop-n.invariant plain)
