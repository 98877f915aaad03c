-- Blocks of body lines, read one after the other.
use Rattle.std.specs.Prelude.{ℕ, List, ◌++◌, Ok, Err, Result}
use Rattle.effect.specs.Laws.{Operations}
use Rattle.effect.specs.Notations.{Notation}
use Rattle.loads.specs.declared.kinds.Kind.{Kind}
use Rattle.loads.specs.declared.records.Record.{Record}
use Rattle.lines.specs.Lexing.{line_at, rest}
use Rattle.lines.specs.declared.token.Tokens.{Tokens}
use Rattle.sheet_lines.specs.declared.fault.TextFault.{TextFault}
use Rattle.sheet_text.specs.Texts.{Bodies}

-- the records b' where all bodies were entered
abbrev pub entered_of : {E : Type 0} → Result (Unit {0}) TextFault → List (Record E) → Result (List (Record E)) TextFault
entered_of (Ok u) b' = Ok b'
entered_of (Err f) b' = Err f

module _ {E : Type 0} (o : Operations E) (w : Notation E) (p : ℕ) where
  -- the lines of some kinds are entered, from s to t and from the records b to b': what comes of the lines after them comes of all
  abbrev pub Block : List Kind → Tokens → List (Record E) → Result (Unit {0}) TextFault → Tokens → List (Record E) → Type 0
  Block block s b (Ok u) t b' = (kinds : List Kind) (r : Result (List (Record E)) TextFault) → Bodies o w p b' (line_at t) kinds (rest t) r → Bodies o w p b (line_at s) (block ++ kinds) (rest s) r
  Block block s b (Err f) t b' = (kinds : List Kind) → Bodies o w p b (line_at s) (block ++ kinds) (rest s) (Err f)
