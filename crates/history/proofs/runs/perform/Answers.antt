use Rattle.sheet.specs.Held.{held, places_of}
use Rattle.history.specs.History.{both}
use Rattle.history.proofs.Laws.{performed}
use Rattle.history.proofs.runs.perform.Goals as goal

pub returns : goal.returns
returns g c =
    let n = c.args.norm.now in
    record {
      law = performed g.E.Effect.means g.met.E.Effect.lawful (both (g.M.Norm.percentages n) (g.M.SpecialNorm.special n)) (places_of c.args.sheet.now) (held c.args.sheet.now)
          c.args.call c.step.result (held c.step.new.sheet) c.step.ensures.stepped (g.met.M.Norm.ranged n) (g.met.M.SpecialNorm.special_ranged n);
      places = c.step.ensures.places;
    }
