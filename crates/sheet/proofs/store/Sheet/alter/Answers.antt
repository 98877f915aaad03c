use Rattle.std.proofs.Common.{set, Err, sym, refl, ap, ◌∙◌, subst}
use Rattle.std.proofs.lemmas.Result.{err_from_is_err_and}
use Rattle.sheet.specs.Ledger.{Missing, Performs, record_of}
use Rattle.sheet.specs.Held.{held, places_of}
use Rattle.sheet.specs.declared.changes.Change.TheVariants.{Alter}
use Rattle.sheet.proofs.Calls.{there, altered, alter_due, alter_sound, alter_clear}
use Rattle.sheet.proofs.store.Sheet.alter.Goals as goal

pub returns-in_err-kind : goal.returns-in_err-kind
returns-in_err-kind g c =
    let n = c.args.entry.number in
    let b = held c.args.self.now in
    let out = err_from_is_err_and c.from_residual.result c.from_residual.ensures.1 in
    record {
      ledger =
          subst (λ r. Performs g.E.Effect.means (places_of c.args.self.now) b (Alter c.args.entry) r b) (sym (out.1 ∙ ap Err out.2))
          (alter_due g.E.Effect.means c.args.entry b c.as_slice.result.now c.as_slice.ensures.value (places_of c.args.self.now) c.in_err-kind.field-0.0 c.in_err-kind.ensures, refl);
      places = refl;
    }

pub returns-in_err-place : goal.returns-in_err-place
returns-in_err-place g c =
    let n = c.args.entry.number in
    let b = held c.args.self.now in
    let out = err_from_is_err_and c.from_residual-in_err-place.result c.from_residual-in_err-place.ensures.1 in
    record {
      ledger = subst (λ r. Performs g.E.Effect.means (places_of c.args.self.now) b (Alter c.args.entry) r b) (sym (out.1 ∙ ap Err (out.2 ∙ c.in_err-place.ensures.0))) (
        (
          subst (Missing n) c.as_slice-2.ensures.value c.in_err-place.ensures.1,
          alter_sound g.E.Effect.means c.args.entry b c.as_slice.result.now c.as_slice.ensures.value (places_of c.args.self.now) c.in_ok-kind.ensures.1,
        ),
        refl,
      );
      places = refl;
    }

pub returns : goal.returns
returns g c =
    let n = c.args.entry.number in
    let b = held c.args.self.now in
    let s = c.as_slice-2.result.now in
    let same = c.as_slice-2.ensures.value in
    let at = c.in_ok-place.ensures in
    let new = altered n s b same c.in_ok-place.place at (record_of c.args.entry c.in_ok-kind.kind) in
    record {
      ledger = (
        alter_clear g.E.Effect.means c.args.entry b c.as_slice.result.now c.as_slice.ensures.value (places_of c.args.self.now) c.in_ok-kind.ensures.1 (there n s b same c.in_ok-place.place at),
        (c.in_ok-kind.kind, c.in_ok-kind.ensures.0, (new.0, new.1, new.2, new.3, new.4, c.put.ensures.records ∙ ap (λ r. set b c.in_ok-place.place r) c.record.ensures ∙ new.5)),
      );
      places = c.put.ensures.places;
    }
