use Rattle.std.proofs.Common.{◌≡◌, ℕ, ◌+◌, ◌<◌, ◌≤◌, false, get_or, replicate, sym, refl, ◌∙◌, subst, inl, arith, below_more}
use Rattle.std.proofs.lemmas.Bool.{both_ways}
use Rattle.questions.specs.PartChoices.{Marked}
use Rattle.questions.specs.Tables.{TableBest, Closed}
use Rattle.questions.specs.declared.table.Table.{Table}
use Rattle.questions.proofs.Groupmates.{carried_closed, closed_blank, carried_wanted}
use Rattle.questions.specs.Items.{items_of}
use Rattle.questions.proofs.Readies.{same_length}
use Rattle.questions.proofs.Starts.{none_done, blank_best}
use Rattle.questions.proofs.table.Table.of.Goals as goal
use Rattle.questions.proofs.table.Table.of.Goals.{then-wanted-i+then-not-table-i, else-wanted-i, else-wanted-i-via-then-wanted-i+else-not-table-i, else-wanted-i-via-else-wanted-i}

pub loop-i-init : goal.loop-i-init
loop-i-init g c =
    let items = items_of g.E.Effect.means c.args.rated.now.percents c.args.rated.now.loads.now.records.now in
    let start : Table → Type 0 = λ t. TableBest g.E.Effect.means items t × Closed items c.args.wanted.now t.done × ((k : ℕ) → k < 0 → Marked c.args.wanted.now k → Marked t.done k) × ((k : ℕ) → Marked t.done k → Marked c.args.wanted.now k) × (t.groups ≤ 0) × (t.limit ≡ c.args.limit) in
    subst start (sym c.blank-table.ensures) (
      blank_best g.met.E.Effect.lawful items (omega (arith, c.args.rated.now.loads.now.kept.few, same_length g.E.Effect.means c.args.rated.now.percents c.args.rated.now.loads.now.records.now)) c.args.limit c.requires,
      closed_blank items c.args.wanted.now (replicate 32 false) none_done,
      λ k h w. absurd (omega arith),
      λ k d. absurd (none_done k d),
      omega arith,
      refl,
    )

pub loop-i-preserved : goal.loop-i-preserved
loop-i-preserved g c =
    let wanted = c.args.wanted.now in
    let inv = c.loop-i.invariant in
    let after : Table → Type 0 = λ t. TableBest g.E.Effect.means (items_of g.E.Effect.means c.args.rated.now.percents c.args.rated.now.loads.now.records.now) t × Closed (items_of g.E.Effect.means c.args.rated.now.percents c.args.rated.now.loads.now.records.now) wanted t.done × ((k : ℕ) → k < c.loop-i.i + 1 → Marked wanted k → Marked t.done k) × ((k : ℕ) → Marked t.done k → Marked wanted k) × (t.groups ≤ c.loop-i.i + 1) × (t.limit ≡ c.args.limit) in
    elim c.if-wanted-i.branch [
      | then-wanted-i+then-not-table-i w ↦ subst after (sym w.table-is) (
        w.carry.ensures.best,
        carried_closed (items_of g.E.Effect.means c.args.rated.now.percents c.args.rated.now.loads.now.records.now) wanted c.loop-i.i c.loop-i.table.done (omega (arith, c.loop-i-test.true, same_length g.E.Effect.means c.args.rated.now.percents c.args.rated.now.loads.now.records.now)) w.if-wanted-i.true w.if-not-table-i.true inv.1 w.carry.ensures.carried,
        below_more (λ k. Marked wanted k → Marked w.carry.new.self.done k) _ (λ k h m. w.carry.ensures.carried.wider k (inv.2 k h m)) (λ m. w.carry.ensures.carried.covered c.loop-i.i (omega (arith, c.loop-i-test.true, same_length g.E.Effect.means c.args.rated.now.percents c.args.rated.now.loads.now.records.now)) (inl refl)),
        carried_wanted (items_of g.E.Effect.means c.args.rated.now.percents c.args.rated.now.loads.now.records.now) wanted c.loop-i.i c.loop-i.table.done (omega (arith, c.loop-i-test.true, same_length g.E.Effect.means c.args.rated.now.percents c.args.rated.now.loads.now.records.now)) w.if-wanted-i.true w.if-not-table-i.true inv.1 inv.3 w.carry.ensures.carried,
        omega (arith, w.carry.ensures.groups, inv.4),
        w.carry.ensures.limit ∙ inv.5,
      )
      | else-wanted-i w ↦ subst after (sym w.table-is) (
        inv.0,
        inv.1,
        below_more (λ k. Marked wanted k → Marked c.loop-i.table.done k) _ inv.2
            (elim w.else-wanted-i.branch [
              | else-wanted-i-via-then-wanted-i+else-not-table-i v ↦ λ m. v.if-not-table-i.false
              | else-wanted-i-via-else-wanted-i v ↦ λ m. absurd (both_ways (get_or wanted c.loop-i.i false) v.if-wanted-i.false m)
            ]),
        inv.3,
        omega (arith, inv.4),
        inv.5,
      )
    ]
