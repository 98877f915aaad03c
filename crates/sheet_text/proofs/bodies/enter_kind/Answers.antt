use Rattle.std.proofs.Common.{◌≡◌, replicate, Ok, refl, ap, ◌∙◌, subst, arith}
use Rattle.sheet.specs.Held.{held, places_of}
use Rattle.sheet_text.specs.Blocks.{Block}
use Rattle.sheet_text.proofs.Blocks.{block_none, handed_on, kind_faulty, kind_more}
use Rattle.sheet_text.proofs.bodies.enter_kind.Goals as goal

pub loop-init : goal.loop-init
loop-init g c = (block_none g.E.Effect.means g.E.Written.writes (places_of c.args.sheet.now) c.args.tokens.now (held c.args.sheet.now), refl)

pub returns-in_err-enter_line : goal.returns-in_err-enter_line
returns-in_err-enter_line g c =
    let o = g.E.Effect.means in
    let w = g.E.Written.writes in
    let p = places_of c.args.sheet.now in
    let s = c.args.tokens.now in
    let u = c.enter_line.new.tokens in
    let b = held c.args.sheet.now in
    let d = held c.enter_line.new.sheet in
    let f = c.in_err-enter_line.field-0.0 in
    let line = c.in_err-enter_line.ensures in
    let same = c.loop.invariant.1 in
    record {
      block = subst (λ r. Block o w p (replicate c.args.count c.args.kind) s b r u d) (handed_on c.from_residual.result f c.from_residual.ensures.1)
          (kind_faulty o w p c.args.kind c.loop.counter s c.loop.tokens u b (held c.loop.sheet) d c.loop.invariant.0 (places_of c.loop.sheet) same c.args.count f c.loop-test.true line.block);
      places = line.places ∙ same;
    }

pub loop-preserved : goal.loop-preserved
loop-preserved g c =
    let line = c.in_ok-enter_line.ensures in
    let same = c.loop.invariant.1 in
    (kind_more g.E.Effect.means g.E.Written.writes (places_of c.args.sheet.now) c.args.kind c.loop.counter c.args.tokens.now c.loop.tokens c.enter_line.new.tokens (held c.args.sheet.now) (held c.loop.sheet) (held c.enter_line.new.sheet) c.loop.invariant.0 (places_of c.loop.sheet) same line.block, line.places ∙ same)

pub returns : goal.returns
returns g c =
    let all : c.loop.counter ≡ c.args.count = omega (arith, c.loop.auto.counter-end, c.loop-test.false) in
    record {
      block = subst (λ l. Block g.E.Effect.means g.E.Written.writes (places_of c.args.sheet.now) l c.args.tokens.now (held c.args.sheet.now) (Ok tt) c.loop.tokens (held c.loop.sheet)) (ap (λ n. replicate n c.args.kind) all) c.loop.invariant.0;
      places = c.loop.invariant.1;
    }
