use Rattle.std.proofs.Common.{◌≡◌}
use Rattle.sheet.specs.Held.{held, places_of}
use Rattle.history.specs.History.{both}
use Rattle.history.proofs.Traces.{Sofar}
use Rattle.history.proofs.replays.replay.Given as goal

abbrev pub invariant-loop-call : goal.invariant-loop-call
invariant-loop-call g l =
    (places_of l.sheet ≡ places_of l.initial.sheet)
    × Sofar g.E.Effect.means (both (g.M.Norm.percentages l.norm) (g.M.SpecialNorm.special l.norm)) (places_of l.sheet) l.calls l.initial.log l.call-index l.log (held l.sheet)
