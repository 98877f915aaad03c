use Rattle.std.proofs.Common.{◌≡◌, ℕ, ◌+◌, ◌<◌, ◌≤◌, Bool, true, List, length, get_or, set, sym, refl, ap, ◌∙◌, subst, ⊎_elim, arith, length-set}
use Rattle.std.proofs.lemmas.Bool.{cases_lt}
use Rattle.questions.specs.Items.{items_of}
use Rattle.questions.specs.Rows.{RowBest}
use Rattle.questions.specs.Tables.{TakesAtMost}
use Rattle.questions.specs.declared.row.Row.{Row}
use Rattle.questions.specs.declared.table.Table.{Table}
use Rattle.questions.proofs.Bounds.{bound_offered, row_past}
use Rattle.questions.proofs.Offers.{Offering, offering_none, offering_more}
use Rattle.questions.proofs.Readies.{light_of}
use Rattle.questions.proofs.table.Table.offer.Goals as goal
use Rattle.questions.proofs.table.Table.offer.Goals.{else-loop-count-test, then-loop-count-test+else-count-last}

pub loop-count-init : goal.loop-count-init
loop-count-init g c = (
  refl,
  refl,
  refl,
  offering_none g.met.E.Effect.lawful (light_of g.met.E.Effect.lawful c.args.rated.now.percents c.args.rated.now.loads.now.records.now c.args.rated.now.loads.now.kept c.args.rated.now.whole) c.requires.opens c.args.self.now.limit c.args.self.now.rows c.requires.best.size c.requires.best.each,
)

pub loop-count-preserved : goal.loop-count-preserved
loop-count-preserved g c = (
  c.loop-count.invariant.0,
  c.loop-count.invariant.1,
  c.loop-count.invariant.2,
  offering_more g.met.E.Effect.lawful (light_of g.met.E.Effect.lawful c.args.rated.now.percents c.args.rated.now.loads.now.records.now c.args.rated.now.loads.now.kept c.args.rated.now.whole) c.requires.opens
      c.args.self.now.limit c.args.self.now.rows c.loop-count.self.rows c.args.old.now.rows c.loop-count.count _ _ c.stepped-row.result
      c.loop-count.auto.count (omega (arith, c.loop-count-test.true, c.min-last.ensures)) c.requires.best.rows_few c.requires.best.each (λ k d h. c.requires.prior.each k d (omega (arith, c.requires.rows))) c.loop-count.invariant.3 c.stepped-row.ensures,
)

pub returns-clause-best : goal.returns-clause-best
returns-clause-best g c =
    let n = g.E.Effect.means in
    let items = items_of n c.args.rated.now.percents c.args.rated.now.loads.now.records.now in
    let start = c.args.self.now in
    let t = c.loop-count-test.self in
    let light = light_of g.met.E.Effect.lawful c.args.rated.now.percents c.args.rated.now.loads.now.records.now c.args.rated.now.loads.now.kept c.args.rated.now.whole in
    let offered : Table → ℕ → Type 0 = λ t k. (t.done ≡ start.done) × (t.groups ≡ start.groups) × (t.limit ≡ start.limit) × Offering n items start.rows t.rows start.done c.args.j k in
    let left : (k : ℕ) × (c.min-last.result < k) × offered t k = elim c.loop-count-test.branch [
      | else-loop-count-test w ↦ (c.loop-count.count, omega (arith, w.loop-count-test.false), subst (λ (t : Table). offered t c.loop-count.count) (sym w.self-is) c.loop-count.invariant)
      | then-loop-count-test+else-count-last w ↦ (
        c.loop-count.count + 1,
        omega (arith, c.min-last.ensures, w.loop-count-test.true),
        subst (λ (t : Table). offered t (c.loop-count.count + 1)) (sym w.self-is) (
          c.loop-count.invariant.0,
          c.loop-count.invariant.1,
          c.loop-count.invariant.2,
          offering_more g.met.E.Effect.lawful light c.requires.opens
              start.limit start.rows c.loop-count.self.rows c.args.old.now.rows c.loop-count.count _ _ w.stepped-row.result
              c.loop-count.auto.count (omega (arith, w.loop-count-test.true, c.min-last.ensures)) c.requires.best.rows_few c.requires.best.each (λ k d h. c.requires.prior.each k d (omega (arith, c.requires.rows))) c.loop-count.invariant.3 w.stepped-row.ensures,
        ),
      )
    ] in
    let k = left.0 in
    let is = left.2 in
    let flags : List Bool = set start.done c.args.j true in
    let same : set t.done c.args.j true ≡ flags = ap (λ (d : List Bool). set d c.args.j true) is.0 in
    let bound : TakesAtMost items flags start.groups = subst (TakesAtMost items flags) (sym c.requires.one) (bound_offered c.requires.opens c.args.old.now.groups c.requires.prior.bound (subst (TakesAtMost items start.done) c.requires.one c.requires.best.bound)) in
    let each : (m : ℕ) (d : Row) → m ≤ start.limit → RowBest n items flags m (get_or t.rows m d) = λ m d h. ⊎_elim
    (λ (below : m < k). is.3.below m d below)
    (λ (past : k ≤ m).
    subst (RowBest n items flags m) (sym (is.3.above m d past (omega (arith, c.requires.best.rows_few))))
    (row_past g.met.E.Effect.lawful light c.requires.opens start.groups bound m (get_or start.rows m d) (omega (arith, left.1, c.min-last.ensures)) (c.requires.best.each m d h)))
    (cases_lt m k) in
    record {
      size = is.3.size;
      flags = ap length same ∙ length-set start.done c.args.j true ∙ c.requires.best.flags;
      few = omega (arith, is.1, c.requires.best.few);
      rows_few = omega (arith, is.2, c.requires.best.rows_few);
      bound = subst (λ (f : List Bool). TakesAtMost items f t.groups) (sym same) (subst (TakesAtMost items flags) (sym is.1) bound);
      each = λ m d h. subst (λ (f : List Bool). RowBest n items f m (get_or t.rows m d)) (sym same) (each m d (omega (arith, is.2)));
    }
