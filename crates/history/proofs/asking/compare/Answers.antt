use Rattle.sheet.specs.Held.{held, places_of}
use Rattle.history.specs.History.{both}
use Rattle.history.specs.Outcomes.{answer_of}
use Rattle.history.proofs.Laws.{both_asked}
use Rattle.history.proofs.asking.compare.Goals as goal

pub returns : goal.returns
returns g c =
    let n = c.args.norm.now in
    both_asked g.E.Effect.means g.met.E.Effect.lawful (both (g.M.Norm.percentages n) (g.M.SpecialNorm.special n)) (g.met.M.Norm.ranged n) (g.met.M.SpecialNorm.special_ranged n)
    (places_of c.args.first.now) (held c.args.first.now) (places_of c.args.second.now) (held c.args.second.now) c.args.question
    (answer_of c.ask.result) (answer_of c.ask-2.result) c.ask.ensures c.ask-2.ensures
