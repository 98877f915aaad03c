use Rattle.std.proofs.Common.{◌≡◌, ◌+◌, true, false, ◌∷◌, drop, sym, ap, ◌∙◌, subst, rules}
use Rattle.std.proofs.lemmas.List.{at_drop_more, at_drop_all}
use Rattle.combination.specs.Choices.{is_of_kind}
use Rattle.sheet_lines.specs.Bodies.{body_lines}
use Rattle.writing.proofs.Onward.{Onward, onward_more, onward_all}
use Rattle.writing.proofs.Overlays.{so}
use Rattle.sheet_writing.specs.Sheets.{of_kind}
use Rattle.sheet_writing.proofs.KindLines.{kind_in, kind_out}
use Rattle.sheet_writing.proofs.bodies.write_kind.Goals as goal
use Rattle.sheet_writing.proofs.bodies.write_kind.Goals.{then-eq, else-eq}

pub loop-record-preserved : goal.loop-record-preserved
loop-record-preserved g c =
    let w = g.E.Written.writes in
    let rs = c.args.records.now in
    let r = c.record-item.result in
    let k = c.args.kind in
    let i = c.loop-record.record-index in
    let left = drop (i + 1) rs in
    let next = at_drop_more (λ l. body_lines w (of_kind k l)) rs i r c.loop-record-test.true ∙ ap (λ x. body_lines w (of_kind k (x ∷ left))) (sym c.record-item.is) in
    elim c.if-eq.branch [
      | then-eq v ↦
          let same : is_of_kind k r.kind ≡ true = search rules in
          subst (λ o. Onward c.args.out.now o (body_lines w (of_kind k left)) (body_lines w (of_kind k rs))) (sym v.out-is)
          (onward_more c.loop-record.invariant (next ∙ kind_in w k r left same) v.write_body.ensures)
      | else-eq v ↦
          let other : is_of_kind k r.kind ≡ false = search rules in
          subst (λ o. Onward c.args.out.now o (body_lines w (of_kind k left)) (body_lines w (of_kind k rs))) (sym v.out-is)
          (λ z more. c.loop-record.invariant z (so (sym (next ∙ kind_out w k r left other)) more))
    ]

pub returns : goal.returns
returns g c = onward_all c.loop-record.invariant (at_drop_all (λ l. body_lines g.E.Written.writes (of_kind c.args.kind l)) c.args.records.now c.loop-record.record-index c.loop-record-test.false)
