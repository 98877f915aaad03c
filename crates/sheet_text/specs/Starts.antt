-- The length of a text, and its first line.
use Rattle.std.specs.Prelude.{◌≡◌, ℕ, ◌+◌, ◌≤◌, List, length, Ok, Err, Result}
use Rattle.refusals.specs.declared.Refusal.TheVariants.{Header}
use Rattle.lines.specs.Lexing.{line_at, rest}
use Rattle.lines.specs.Reading.{Anything}
use Rattle.lines.specs.declared.token.Tokens.{Tokens}
use Rattle.load_lines.specs.declared.names.Names.{Names}
use Rattle.sheet_lines.specs.Heading.{names_line}
use Rattle.sheet_lines.specs.declared.fault.TextFault.{TextFault}
use Rattle.sheet_text.specs.Texts.{NoLine, misread}

-- the names in the first line of a text of at most 4,096 bytes, or that there is none
abbrev pub NamesOf : List ℕ → Result Names TextFault → Type 0
NamesOf text (Ok x) = (length text ≤ 4096) × ((after : List ℕ) × (text ≡ names_line x after))
NamesOf text (Err f) = (length text ≤ 4096 → NoLine Anything names_line text) × (f ≡ misread Header 1)

-- the same of n bytes, from s to t
abbrev pub Headed : ℕ → Tokens → Result Names TextFault → Tokens → Type 0
Headed n s (Ok x) t = (n ≤ 4096) × (rest s ≡ names_line x (rest t)) × (line_at t ≡ line_at s + 1)
Headed n s (Err f) t = (n ≤ 4096 → NoLine Anything names_line (rest s)) × (f ≡ misread Header 1)
