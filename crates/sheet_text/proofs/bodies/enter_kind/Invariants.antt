use Rattle.std.proofs.Common.{◌≡◌, replicate, Ok}
use Rattle.sheet.specs.Held.{held, places_of}
use Rattle.sheet_text.specs.Blocks.{Block}
use Rattle.sheet_text.proofs.bodies.enter_kind.Given as goal

-- the lines so far, and the same places
abbrev pub invariant-loop : goal.invariant-loop
invariant-loop g l =
    Block g.E.Effect.means g.E.Written.writes (places_of l.initial.sheet) (replicate l.counter l.kind) l.initial.tokens (held l.initial.sheet) (Ok tt) l.tokens (held l.sheet)
    × (places_of l.sheet ≡ places_of l.initial.sheet)
