use Rattle.std.proofs.Common.{◌≡◌, ◌+◌, ◌<◌, min, ◌∷◌, length, drop, sym, ap, ◌∙◌, ap₂, arith}
use Rattle.std.proofs.lemmas.Slice.Zip.{zip_turn, zip_end}
use Rattle.combination.specs.Choices.{lines}
use Rattle.combination.proofs.Places.{length_more, lines_at, lines_none}
use Rattle.writing.proofs.Onward.{onward_more, onward_all}
use Rattle.answer_lines.specs.Lines.{section_text}
use Rattle.answer_lines.proofs.sections.Section.write.Goals as goal

pub loop-of-init : goal.loop-of-init
loop-of-init g c = λ z w. w

pub loop-of-preserved : goal.loop-of-preserved
loop-of-preserved g c =
    let rs = c.args.choice.now.records.now in
    let ps = c.args.choice.now.picks.now in
    let t = zip_turn rs ps c.loop-of.yielded c.into_iter-of-iterator.result c.loop-of.of-iterator c.next.new.self c.next.result (cc) (cc) c.loop-of.yielded_by (c.in-Some.of, c.in-Some.pick) c.in-Some.is c.next.ensures.steps in
    let i = length c.loop-of.yielded in
    let within : i < min (length rs) (length ps) = omega (arith, t.0, t.1) in
    let here : lines (drop i rs) (drop i ps) ≡ (c.in-Some.of.now, c.in-Some.pick.now) ∷ lines (drop (i + 1) rs) (drop (i + 1) ps) =
    lines_at rs ps i c.in-Some.of.now c.in-Some.pick.now within ∙ ap₂ (λ r p. (r, p) ∷ lines (drop (i + 1) rs) (drop (i + 1) ps)) (sym (t.2 c.in-Some.of.now)) (sym (t.3 c.in-Some.pick.now)) in
    rw (length_more c.loop-of.yielded (c.in-Some.of, c.in-Some.pick)) (onward_more c.loop-of.invariant (ap (section_text c.args.self) here) c.write_if_shown.ensures)

pub returns : goal.returns
returns g c =
    let rs = c.args.choice.now.records.now in
    let ps = c.args.choice.now.picks.now in
    let t = zip_end rs ps c.loop-of.yielded c.into_iter-of-iterator.result c.loop-of.of-iterator c.next.new.self c.next.result (cc) (cc) c.loop-of.yielded_by c.in-None.is c.next.ensures.steps in
    onward_all c.loop-of.invariant (ap (section_text c.args.self) (lines_none rs ps (length c.loop-of.yielded) (omega arith)))
