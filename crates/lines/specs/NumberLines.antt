-- The lines of a text that has as many numbers in each.
use Rattle.std.specs.Prelude.{◌≡◌, ℕ, ◌+◌, ◌<◌, List, [], length, Some, None, Ok, Err, Option, Result, ◌≢◌}
use Rattle.refusals.specs.declared.Refusal.TheVariants.{BodyLine}
use Rattle.lines.specs.Lexing.{rest, line_at}
use Rattle.lines.specs.Numeral.{Short}
use Rattle.lines.specs.Reading.{Row, numbers_line}
use Rattle.lines.specs.declared.fault.Fault.{Fault}
use Rattle.lines.specs.declared.token.Tokens.{Tokens}

-- the first line of what s has left has the numbers ns, and u stands at the next line
pub record LineGiven (k : ℕ) (s : Tokens) (ns : List ℕ) (u : Tokens) : Type 0 where
  pub valid : Row Short k ns
  pub line : rest s ≡ numbers_line ns (rest u)
  pub next : line_at u ≡ line_at s + 1

-- the first line has no k numbers, f is its fault, and nothing is left
pub record LineEnds (k : ℕ) (s : Tokens) (f : Fault) (u : Tokens) : Type 0 where
  pub some : 0 < length (rest s)
  pub no_line : (ns t : List ℕ) → Row Short k ns → rest s ≢ numbers_line ns t
  pub fault : f ≡ record { refusal = BodyLine; line = line_at s }
  pub nothing : rest u ≡ []

-- nothing is given exactly where nothing is left
abbrev pub Gives : ℕ → Tokens → Option (Result (List ℕ) Fault) → Tokens → Type 0
Gives k s None u = (rest s ≡ []) × (u ≡ s)
Gives k s (Some (Ok ns)) u = LineGiven k s ns u
Gives k s (Some (Err f)) u = LineEnds k s f u
