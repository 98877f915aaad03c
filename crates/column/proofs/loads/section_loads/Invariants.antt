use Rattle.std.proofs.Common.{◌≡◌, ◌*◌, ◌≤◌, Some, length, sum_by}
use Rattle.column.specs.Loads.{full_of, reduced_of}
use Rattle.column.proofs.loads.section_loads.Given as goal

abbrev pub invariant-loop-storey : goal.invariant-loop-storey
invariant-loop-storey l =
    (l.full ≡ sum_by (λ x. full_of (Some x.now)) l.yielded)
    × (l.reduced ≡ sum_by (λ x. reduced_of l.count (Some x.now)) l.yielded)
    × (l.full ≤ length l.yielded * 65000000000000000)
    × (l.reduced ≤ l.full)
