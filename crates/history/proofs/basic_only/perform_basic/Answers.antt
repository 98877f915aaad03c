use Rattle.sheet.specs.Held.{held, places_of}
use Rattle.history.specs.History.{both}
use Rattle.history.proofs.Laws.{performed_basic}
use Rattle.history.proofs.basic_only.perform_basic.Goals as goal

pub returns : goal.returns
returns g c =
    let n = c.args.norm.now in
    record {
      law = λ special.
          performed_basic g.E.Effect.means g.met.E.Effect.lawful (both (g.M.Norm.percentages n) special) (places_of c.args.sheet.now) (held c.args.sheet.now)
          c.args.call c.step_basic.result (held c.step_basic.new.sheet) (c.step_basic.ensures.stepped special) (g.met.M.Norm.ranged n);
      places = c.step_basic.ensures.places;
    }
