use Rattle.std.proofs.Common.{◌≡◌, ℕ, ◌+◌, ◌<◌, ◌≤◌, Bool, false, List, length, get_or, replicate, sym, refl, subst, inl, arith, below_more}
use Rattle.std.proofs.lemmas.Bool.{both_ways}
use Rattle.questions.specs.Items.{full, items_of}
use Rattle.questions.specs.PartChoices.{Marked}
use Rattle.questions.specs.Tables.{Closed, TakesAtMost}
use Rattle.questions.proofs.Bounds.{bound_covered}
use Rattle.questions.proofs.Groupmates.{carried_closed, closed_blank}
use Rattle.questions.proofs.Readies.{same_length}
use Rattle.questions.proofs.Starts.{none_done, bound_blank}
use Rattle.questions.proofs.groups.Wanted.group_count.Goals as goal
use Rattle.questions.proofs.groups.Wanted.group_count.Goals.{then-self-i+then-not-done-i, else-self-i, else-self-i-via-then-self-i+else-not-done-i, else-self-i-via-else-self-i}

pub loop-i-init : goal.loop-i-init
loop-i-init g c =
    let items = items_of g.E.Effect.means full c.args.self.now.loads.now.records.now in
    (bound_blank g.met.E.Effect.lawful items, closed_blank items c.args.self.now.flags.now (replicate 32 false) none_done, λ k h w. absurd (omega arith), omega arith)

pub loop-i-preserved : goal.loop-i-preserved
loop-i-preserved g c =
    let items = items_of g.E.Effect.means full c.args.self.now.loads.now.records.now in
    let same : length items ≡ length c.args.self.now.loads.now.records.now = same_length g.E.Effect.means full c.args.self.now.loads.now.records.now in
    let wanted = c.args.self.now.flags.now in
    let inv = c.loop-i.invariant in
    let i = c.loop-i.i in
    let after : List Bool → ℕ → Type 0 = λ d n. TakesAtMost items d n × Closed items wanted d × ((k : ℕ) → k < i + 1 → Marked wanted k → Marked d k) × (n ≤ i + 1) in
    elim c.if-self-i.branch [
      | then-self-i+then-not-done-i w ↦ subst (λ (n : ℕ). after c.if-self-i.done n) (sym w.count-is) (subst (λ (d : List Bool). after d (c.loop-i.count + 1)) (sym w.done-is) (
        w.mark_group.ensures.bound c.loop-i.count inv.0,
        carried_closed items wanted i c.loop-i.done (omega (arith, c.loop-i-test.true)) w.if-self-i.true w.if-not-done-i.true inv.1 w.mark_group.ensures.carried,
        below_more (λ k. Marked wanted k → Marked w.mark_group.new.done k) _ (λ k h m. w.mark_group.ensures.carried.wider k (inv.2 k h m)) (λ m. w.mark_group.ensures.carried.covered i (omega (arith, c.loop-i-test.true)) (inl refl)),
        omega (arith, inv.3),
      ))
      | else-self-i w ↦ subst (λ (n : ℕ). after c.if-self-i.done n) (sym w.count-is) (subst (λ (d : List Bool). after d c.loop-i.count) (sym w.done-is) (
        inv.0,
        inv.1,
        below_more (λ k. Marked wanted k → Marked c.loop-i.done k) _ inv.2
            (elim w.else-self-i.branch [
              | else-self-i-via-then-self-i+else-not-done-i v ↦ λ m. v.if-not-done-i.false
              | else-self-i-via-else-self-i v ↦ λ m. absurd (both_ways (get_or wanted i false) v.if-self-i.false m)
            ]),
        omega (arith, inv.3),
      ))
    ]

pub returns-clause-bound : goal.returns-clause-bound
returns-clause-bound g c =
    let items = items_of g.E.Effect.means full c.args.self.now.loads.now.records.now in
    let same : length items ≡ length c.args.self.now.loads.now.records.now = same_length g.E.Effect.means full c.args.self.now.loads.now.records.now in
    bound_covered items c.args.self.now.flags.now c.loop-i.done c.loop-i.count (λ k h w. c.loop-i.invariant.2 k (omega (arith, c.loop-i-test.false)) w) c.loop-i.invariant.0
