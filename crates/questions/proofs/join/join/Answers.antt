use Rattle.std.proofs.Common.{◌≡◌, ◌<◌, ◌∙◌, sym, length, get_or, take, rules, ap₂, arith, None}
use Rattle.std.proofs.lemmas.List.{get_or-take, length-take-le, ext_get_or}
use Rattle.combination.specs.declared.picks.Pick.TheVariants.{Out}
use Rattle.questions.specs.Engine.{joined}
use Rattle.questions.specs.PartChoices.{roles_of}
use Rattle.questions.proofs.Arrays.{each_made}
use Rattle.questions.proofs.Merges.{length_merged}
use Rattle.questions.proofs.join.join.Goals as goal

pub returns : goal.returns
returns g c =
    let e = g.E.Effect.means in
    let rs = c.args.loads.now.records.now in
    let p = c.args.parts.now in
    let few = c.args.loads.now.kept.few in
    ext_get_or Out (take (length rs) c.from_fn.result) (joined e rs p)
    (length-take-le (length rs) c.from_fn.result (omega (arith, c.from_fn.ensures.items.long)) ∙ sym (length_merged e rs (λ j. get_or (roles_of p.long) j None) (λ j. get_or (roles_of p.short) j None) (λ j. get_or (roles_of p.special) j None)))
    (λ k lt.
    let here : k < length rs = omega (arith, lt, length-take-le (length rs) c.from_fn.result (omega (arith, c.from_fn.ensures.items.long))) in
    get_or-take (length rs) c.from_fn.result k Out here ∙ each_made _ _ (λ k y. y ≡ get_or (joined e rs p) k Out) (λ i x q m. (ap₂ (λ a b. (a, b)) m.met.1.0 m.met.1.1, search rules)) _ _ c.from_fn.ensures.items k Out (omega (arith, here)))
