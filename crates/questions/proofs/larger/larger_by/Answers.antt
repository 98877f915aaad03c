use Rattle.std.proofs.Common.{refl, ⊎_elim}
use Rattle.std.proofs.lemmas.Bool.Decides.{not_from_Decides}
use Rattle.std.specs.Fn.{FnReturnsAt}
use Rattle.questions.proofs.Largest.{first_larger, second_larger}
use Rattle.questions.proofs.larger.larger_by.Goals as goal

pub returns-then-at_most : goal.returns-then-at_most
returns-then-at_most g c =
    let R = FnReturnsAt g.F.Fn c.args.effect in
    let p = c.in-Some-Some.p in
    let q = c.in-Some-Some.q in
    let vp : R p c.effect-first.result = record { shown = _; shows = refl; says = record { met = c.effect-first.ensures } } in
    let wq : R q c.effect-second.result = record { shown = _; shows = refl; says = record { met = c.effect-second.ensures } } in
    first_larger g.E.Effect.means R c.args.a c.args.b p q c.effect-first.result c.effect-second.result c.in-Some-Some.is-0 c.in-Some-Some.is-1 vp wq (c.at_most.ensures.answer.0 c.if-at_most.true)

pub returns : goal.returns
returns g c =
    let R = FnReturnsAt g.F.Fn c.args.effect in
    let p = c.in-Some-Some.p in
    let q = c.in-Some-Some.q in
    let vp : R p c.effect-first.result = record { shown = _; shows = refl; says = record { met = c.effect-first.ensures } } in
    let wq : R q c.effect-second.result = record { shown = _; shows = refl; says = record { met = c.effect-second.ensures } } in
    second_larger g.E.Effect.means R c.args.a c.args.b p q c.effect-first.result c.effect-second.result c.in-Some-Some.is-0 c.in-Some-Some.is-1 vp wq
    (⊎_elim (λ h. absurd (not_from_Decides c.at_most.result c.at_most.ensures.answer c.if-at_most.false h)) (λ h. h) (c.at_most.ensures.kept.order.total c.effect-second.result c.effect-first.result))
