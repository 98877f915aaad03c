use Rattle.std.proofs.Common.{◌≡◌, ◌≤◌, length, take}
use Rattle.effect.specs.Laws.{limit}
use Rattle.effect.specs.Sums.{total, reaches}
use Rattle.effect.proofs.sums.sum_all.Given as goal

abbrev pub invariant-loop-x : goal.invariant-loop-x
invariant-loop-x g l =
    let e = g.E.Effect.means in
    (l.x-index ≤ length l.effects) × (reaches e l.effects ≤ limit → l.sum ≡ total e (take l.x-index l.effects))
