use Rattle.std.proofs.Common.{sym, subst}
use Rattle.combination.specs.declared.questions.Question.{Question}
use Rattle.sheet.specs.Held.{held, places_of}
use Rattle.history.specs.History.{both}
use Rattle.history.specs.Steps.{Stepped}
use Rattle.history.specs.declared.calls.Call.TheVariants.{Ask}
use Rattle.std.specs.Prelude.{Ok, Some}
use Rattle.history.proofs.asking.ask.Goals as goal

pub returns-in-Basic : goal.returns-in-Basic
returns-in-Basic g c =
    let special = g.M.SpecialNorm.special c.args.norm.now in
    let norm = both (g.M.Norm.percentages c.args.norm.now) special in
    let p = places_of c.args.sheet.now in
    let b = held c.args.sheet.now in
    subst (λ (q : Question). Stepped g.E.Effect.means norm p b (Ask q) (Ok (Some c.basic.result)) b) (sym c.in-Basic.is) (c.basic.ensures special)
