-- The first line: norm, effect type and number of places.
use Rattle.std.specs.Prelude.{ℕ, List}
use Rattle.lines.specs.Numeral.{Short}
use Rattle.lines.specs.Reading.{last_field}
use Rattle.load_lines.specs.Names.{names_text}
use Rattle.calls.specs.declared.header.Header.{Header}

-- the places are written in at most ten digits
abbrev pub ShortPlaces : Header → Type 0
ShortPlaces h = Short h.places

-- the fields split by one blank, then the line end, and then t
abbrev pub header_line : Header → List ℕ → List ℕ
header_line h t = names_text h.names (last_field h.places t)
