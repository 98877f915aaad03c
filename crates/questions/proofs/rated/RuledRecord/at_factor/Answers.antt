use Rattle.std.proofs.Common.{◌≡◌, ℕ, ◌*◌, ◌≤◌, cond, sym, ap, ◌∙◌, subst, arith}
use Rattle.effect.specs.Laws.{limit}
use Rattle.combination.specs.Choices.{is_lower}
use Rattle.questions.proofs.Readies.{most, multiple_within}
use Rattle.questions.proofs.Splits.{chosen_most}
use Rattle.questions.proofs.rated.RuledRecord.at_factor.Goals as goal

pub returns : goal.returns
returns g c =
    let e = g.E.Effect.means in
    let r = c.args.self.now.record.now in
    let f : ℕ = cond (is_lower c.args.pick) r.load.lower r.load.upper in
    let same : c.factor.result ≡ f = c.factor.ensures in
    let few : f ≤ 200 = chosen_most (is_lower c.args.pick) c.args.self.now.in_range.lower c.args.self.now.in_range.upper in
    let small : f * 1000000 * e.reach r.load.effect ≤ most = multiple_within (f * 1000000) (e.reach r.load.effect) (omega arith) c.args.self.now.in_range.reach in
    let fits : f * 1000000 * e.reach r.load.effect ≤ limit = omega arith in
    c.multiple.ensures (subst (λ (n : ℕ). n * 1000000 * e.reach r.load.effect ≤ limit) (sym same) fits) ∙ ap (λ (n : ℕ). e.times (n * 1000000) r.load.effect) same
