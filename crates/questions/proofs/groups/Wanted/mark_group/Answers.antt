use Rattle.std.proofs.Common.{◌≡◌, ℕ, ◌+◌, Bool, List, length, sym, subst, arith}
use Rattle.std.proofs.lemmas.Bool.Decides.{not_from_Decides}
use Rattle.questions.specs.Items.{full, items_of}
use Rattle.questions.specs.Tables.{TakesAtMost}
use Rattle.questions.proofs.Bounds.{bound_offered}
use Rattle.questions.proofs.Groupmates.{Carrying, carrying_skip, carrying_more, carrying_opens}
use Rattle.questions.proofs.Readies.{same_length}
use Rattle.questions.proofs.groups.Wanted.mark_group.Goals as goal
use Rattle.questions.proofs.groups.Wanted.mark_group.Goals.{then-is_fellow, else-is_fellow}

pub loop-j-preserved : goal.loop-j-preserved
loop-j-preserved g c =
    let items = items_of g.E.Effect.means full c.args.self.now.loads.now.records.now in
    let same : length items ≡ length c.args.self.now.loads.now.records.now = same_length g.E.Effect.means full c.args.self.now.loads.now.records.now in
    let inv = c.loop-j.invariant in
    let after : List Bool → Type 0 = λ d. Carrying items c.args.self.now.flags.now c.args.i c.args.done.now d (c.loop-j.j + 1) × ((n : ℕ) → TakesAtMost items c.args.done.now n → TakesAtMost items d (n + 1)) in
    elim c.if-is_fellow.branch [
      | then-is_fellow w ↦ subst after (sym w.done-is) (
        carrying_more items c.args.self.now.flags.now c.args.i c.args.done.now c.loop-j.j (omega (arith, c.args.self.now.loads.now.kept.few, c.loop-j-test.true)) ((c.is_fellow.ensures full).0 w.if-is_fellow.true) inv.0,
        λ n h. bound_offered (carrying_opens items c.args.self.now.flags.now c.args.i c.args.done.now (omega (arith, c.requires.here)) c.requires.asked c.requires.fresh c.requires.closed c.loop-j.j (omega (arith, c.loop-j-test.true)) (omega (arith, c.args.self.now.loads.now.kept.few)) ((c.is_fellow.ensures full).0 w.if-is_fellow.true) inv.0) n h (inv.1 n h),
      )
      | else-is_fellow w ↦ subst after (sym w.done-is) (
        carrying_skip items c.args.self.now.flags.now c.args.i c.args.done.now c.loop-j.j (not_from_Decides c.is_fellow.result (c.is_fellow.ensures full) w.if-is_fellow.false) inv.0,
        inv.1,
      )
    ]
