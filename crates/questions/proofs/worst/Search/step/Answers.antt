use Rattle.std.proofs.Common.{rules}
use Rattle.questions.proofs.Largest.{no_less}
use Rattle.questions.proofs.Loops.{at_most_100, covers_more}
use Rattle.questions.proofs.worst.Search.step.Goals as goal

pub returns-clause-covers : goal.returns-clause-covers
returns-clause-covers g c =
    let norm = g.M.Norm.percentages c.args.self.now.norm.now in
    λ one. covers_more g.E.Effect.means norm c.args.self.now.question c.args.self.now.loads.now.records.now c.args.taken.long c.args.taken.short c.args.best c.pair-found.result c.larger_by.result (c.requires.covers one)
    (c.pair-found.ensures norm (at_most_100 norm (g.met.M.Norm.ranged c.args.self.now.norm.now)) one c.percents_for-of_long.ensures.agrees c.percents_for-of_short.ensures.agrees)
    (no_less g.met.E.Effect.lawful (λ c. c.effect) (λ v. v) _ _ _ _ c.larger_by.ensures (λ t v h. search rules))
