use Rattle.std.proofs.Common.{◌∙◌}
use Rattle.sheet.specs.Held.{held, places_of}
use Rattle.sheet.proofs.Calls.{there, struck, strike_clear}
use Rattle.sheet.proofs.store.Sheet.strike.Goals as goal

pub returns : goal.returns
returns g c =
    let n = c.args.number in
    let b = held c.args.self.now in
    let s = c.as_slice.result.now in
    let same = c.as_slice.ensures.value in
    let at = c.in_ok-place.ensures in
    let number = c.number_in.ensures.0 c.if-not-number_in.false in
    let out = struck n s b same c.in_ok-place.place at in
    record {
      ledger = (
        strike_clear g.E.Effect.means (places_of c.args.self.now) n b number (there n s b same c.in_ok-place.place at),
        (out.0, out.1, out.2, out.3, out.4, c.take_out.ensures.records ∙ out.5),
      );
      places = c.take_out.ensures.places;
    }
