use Rattle.std.proofs.Common.{Ok, Err, sym, ap, ◌∙◌, subst}
use Rattle.lines.specs.Lexing.{line_at, rest}
use Rattle.refusals.specs.declared.Refusal.TheVariants.{BodyLine}
use Rattle.sheet.specs.Held.{held, places_of}
use Rattle.sheet_lines.specs.Heading.{due}
use Rattle.sheet_text.specs.Blocks.{entered_of}
use Rattle.sheet_text.specs.Texts.{Bodies, finished, misread, surplus}
use Rattle.sheet_text.proofs.Blocks.{block_all, block_ends, four_blocks, handed_on}
use Rattle.sheet_text.proofs.bodies.read_bodies.Goals as goal

pub returns-in_err-enter_kind-4 : goal.returns-in_err-enter_kind-4
returns-in_err-enter_kind-4 g c =
    let o = g.E.Effect.means in
    let w = g.E.Written.writes in
    let p = places_of c.args.sheet.now in
    let s = c.args.tokens.now in
    let b = held c.args.sheet.now in
    let f = c.in_err-enter_kind-4.field-0.0 in
    let one = c.in_ok-enter_kind.ensures in
    let two = c.in_ok-enter_kind-2.ensures in
    let three = c.in_ok-enter_kind-3.ensures in
    let four = c.in_err-enter_kind-4.ensures in
    let all = four_blocks o w p _ _ _ _ _ _ _ s c.enter_kind.new.tokens c.enter_kind-2.new.tokens c.enter_kind-3.new.tokens c.enter_kind-4.new.tokens b _ _ _ (held c.enter_kind-4.new.sheet) (Err f) one.block one.places two.block two.places three.block three.places four.block in
    record {
      bodies = subst (λ r. Bodies o w p b (line_at s) (due c.args.counts) (rest s) (entered_of r (held c.enter_kind-4.new.sheet))) (handed_on c.from_residual-in_err-enter_kind-4.result f c.from_residual-in_err-enter_kind-4.ensures.1)
          (block_ends o w p (due c.args.counts) s c.enter_kind-4.new.tokens b (held c.enter_kind-4.new.sheet) f all);
      places = four.places ∙ three.places ∙ two.places ∙ one.places;
    }

pub returns-then-not-is_at_end : goal.returns-then-not-is_at_end
returns-then-not-is_at_end g c =
    let o = g.E.Effect.means in
    let w = g.E.Written.writes in
    let p = places_of c.args.sheet.now in
    let s = c.args.tokens.now in
    let b = held c.args.sheet.now in
    let t = c.enter_kind-4.new.tokens in
    let d = held c.enter_kind-4.new.sheet in
    let one = c.in_ok-enter_kind.ensures in
    let two = c.in_ok-enter_kind-2.ensures in
    let three = c.in_ok-enter_kind-3.ensures in
    let four = c.in_ok-enter_kind-4.ensures in
    let all = four_blocks o w p _ _ _ _ _ _ _ s c.enter_kind.new.tokens c.enter_kind-2.new.tokens c.enter_kind-3.new.tokens t b _ _ _ d (Ok tt) one.block one.places two.block two.places three.block three.places four.block in
    record {
      bodies = subst (λ f. Bodies o w p b (line_at s) (due c.args.counts) (rest s) (Err f)) (sym (c.fault.ensures ∙ ap (misread BodyLine) c.line.ensures))
          (block_all o w p (due c.args.counts) s t b d (Err (misread BodyLine (line_at t))) all (surplus c.if-not-is_at_end.ensures));
      places = four.places ∙ three.places ∙ two.places ∙ one.places;
    }

pub returns : goal.returns
returns g c =
    let o = g.E.Effect.means in
    let w = g.E.Written.writes in
    let p = places_of c.args.sheet.now in
    let s = c.args.tokens.now in
    let b = held c.args.sheet.now in
    let t = c.enter_kind-4.new.tokens in
    let d = held c.enter_kind-4.new.sheet in
    let one = c.in_ok-enter_kind.ensures in
    let two = c.in_ok-enter_kind-2.ensures in
    let three = c.in_ok-enter_kind-3.ensures in
    let four = c.in_ok-enter_kind-4.ensures in
    let all = four_blocks o w p _ _ _ _ _ _ _ s c.enter_kind.new.tokens c.enter_kind-2.new.tokens c.enter_kind-3.new.tokens t b _ _ _ d (Ok tt) one.block one.places two.block two.places three.block three.places four.block in
    record {
      bodies = block_all o w p (due c.args.counts) s t b d (Ok d) all (finished c.if-not-is_at_end.ensures);
      places = four.places ∙ three.places ∙ two.places ∙ one.places;
    }
