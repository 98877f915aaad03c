use Rattle.std.proofs.Common.{sym, refl, subst}
use Rattle.sheet.specs.Held.{held, places_of}
use Rattle.history.specs.BasicLaw.{call_of}
use Rattle.history.specs.History.{both}
use Rattle.history.specs.Steps.{Stepped}
use Rattle.history.specs.declared.calls.BasicCall.{BasicCall}
use Rattle.std.specs.Prelude.{Ok, Some}
use Rattle.history.proofs.basic_only.step_basic.Goals as goal

pub returns-in-Basic : goal.returns-in-Basic
returns-in-Basic g c =
    let p = places_of c.args.sheet.now in
    let b = held c.args.sheet.now in
    record {
      stepped = λ special.
          subst (λ (x : BasicCall g.row.E.Denot). Stepped g.E.Effect.means (both (g.M.Norm.percentages c.args.norm.now) special) p b (call_of x) (Ok (Some c.basic.result)) b)
          (sym c.in-Basic.is) (c.basic.ensures special);
      places = refl;
    }
