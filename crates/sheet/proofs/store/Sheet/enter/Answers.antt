use Rattle.std.proofs.Common.{[], ◌∷◌, ◌++◌, Err, sym, refl, ap, ◌∙◌, subst}
use Rattle.std.proofs.lemmas.Result.{err_from_is_err_and}
use Rattle.std.proofs.lemmas.Bool.Decides.{not_from_Decides}
use Rattle.sheet.specs.Ledger.{Performs}
use Rattle.sheet.specs.Ledger.{Missing}
use Rattle.sheet.specs.Held.{held, places_of}
use Rattle.sheet.specs.declared.changes.Change.TheVariants.{Enter}
use Rattle.sheet.proofs.Calls.{found, not_found, not_le, there, enter_due, enter_sound, enter_free, enter_clear}
use Rattle.sheet.proofs.store.Sheet.enter.Goals as goal

pub returns-in_err-kind : goal.returns-in_err-kind
returns-in_err-kind g c =
    let n = c.args.entry.number in
    let b = held c.args.self.now in
    let out = err_from_is_err_and c.from_residual.result c.from_residual.ensures.1 in
    record {
      ledger =
          subst (λ r. Performs g.E.Effect.means (places_of c.args.self.now) b (Enter c.args.entry) r b) (sym (out.1 ∙ ap Err out.2))
          (enter_due g.E.Effect.means c.args.entry b c.as_slice.result.now c.as_slice.ensures.value (places_of c.args.self.now) c.in_err-kind.field-0.0 c.in_err-kind.ensures, refl);
      places = refl;
    }

pub returns-then-is_some : goal.returns-then-is_some
returns-then-is_some g c =
    let n = c.args.entry.number in
    let b = held c.args.self.now in
    let at = found c.position.result _ _ (sym c.if-is_some.ensures) c.position.ensures in
    record {
      ledger = (
        (
          there n c.as_slice-2.result.now b c.as_slice-2.ensures.value at.0 at.1,
          enter_sound g.E.Effect.means c.args.entry b c.as_slice.result.now c.as_slice.ensures.value (places_of c.args.self.now) c.in_ok-kind.ensures.1,
        ),
        refl,
      );
      places = refl;
    }

pub returns-then-is_full : goal.returns-then-is_full
returns-then-is_full g c =
    let n = c.args.entry.number in
    let b = held c.args.self.now in
    let missing : Missing n b = subst (Missing n) c.as_slice-2.ensures.value (not_found c.position.result _ _ (sym c.if-is_some.ensures) c.position.ensures) in
    record {
      ledger = (
        (
          c.is_full.ensures.0 c.if-is_full.true,
          enter_free g.E.Effect.means c.args.entry b c.as_slice.result.now c.as_slice.ensures.value (places_of c.args.self.now) c.in_ok-kind.ensures.1 missing,
        ),
        refl,
      );
      places = refl;
    }

pub returns : goal.returns
returns g c =
    let n = c.args.entry.number in
    let b = held c.args.self.now in
    let missing : Missing n b = subst (Missing n) c.as_slice-2.ensures.value (not_found c.position.result _ _ (sym c.if-is_some.ensures) c.position.ensures) in
    record {
      ledger = (
        enter_clear g.E.Effect.means c.args.entry b c.as_slice.result.now c.as_slice.ensures.value (places_of c.args.self.now) c.in_ok-kind.ensures.1 missing
            (not_le (not_from_Decides _ c.is_full.ensures c.if-is_full.false)),
        (c.in_ok-kind.kind, c.in_ok-kind.ensures.0, c.append.ensures.records ∙ ap (λ r. b ++ r ∷ []) c.record.ensures),
      );
      places = c.append.ensures.places;
    }
