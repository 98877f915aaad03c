use Rattle.std.proofs.Common.{◌≡◌, ◌+◌, List, Option, Result}
use Rattle.column.specs.declared.storeys.Storey.{Storey}
use Rattle.lines.specs.Lexing.{line_at, rest}
use Rattle.lines.specs.declared.fault.Fault.{Fault}
use Rattle.listing.specs.Columns.{Loaded, blank, storeys_of}
use Rattle.listing.proofs.take_down.read_column.Given as goal

-- what comes of the lines that are left comes of all
abbrev pub invariant-loop-i : goal.invariant-loop-i
invariant-loop-i l =
    ((r : Result (List (Option Storey)) Fault) → Loaded (line_at l.i-iterator.iter.tokens) (rest l.i-iterator.iter.tokens) (storeys_of l.column) r → Loaded 1 l.text blank r)
    × (line_at l.i-iterator.iter.tokens ≡ l.i-iterator.count + 1)
