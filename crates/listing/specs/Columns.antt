-- What is read of a column, and what is said of its sections.
use Rattle.std.specs.Prelude.{◌≡◌, ℕ, ◌+◌, ◌<◌, List, [], ◌∷◌, ◌++◌, length, replicate, None, Option, Ok, Err, codes, decimal, Result, ◌≢◌, slice_index}
use Rattle.refusals.specs.declared.Refusal.{Refusal}
use Rattle.refusals.specs.declared.Refusal.TheVariants.{BodyLine, ColumnValue}
use Rattle.column.specs.Answer.{SetAnswer, Loads}
use Rattle.column.specs.Loads.{Numbered}
use Rattle.column.specs.declared.Column.{Column}
use Rattle.column.specs.declared.storeys.Storey.{Storey}
use Rattle.lines.specs.Fixed.{fixed8}
use Rattle.lines.specs.Numeral.{Short}
use Rattle.lines.specs.Reading.{Row, numbers_line}
use Rattle.lines.specs.declared.fault.Fault.{Fault}
use Rattle.listing.specs.declared.take_down.Section.{Section}

abbrev pub storeys_of : Column → List (Option Storey)
storeys_of c = c.storeys

abbrev pub fault : Refusal → ℕ → Fault
fault e k = record { refusal = e; line = k }

-- the line that sets a storey, and then t
abbrev pub storey_line : (storey class area load : ℕ) → List ℕ → List ℕ
storey_line storey class area load t = numbers_line (storey ∷ class ∷ area ∷ load ∷ []) t

-- no line of four numbers begins the text
abbrev pub NoLine : List ℕ → Type 0
NoLine text = (ns t : List ℕ) → Row Short 4 ns → text ≢ numbers_line ns t

-- what comes of a text whose first line has the number k, where the column has these storeys: its lines set them one by one, and the first faulty line ends it
pub data Loaded : (k : ℕ) (text : List ℕ) (storeys : List (Option Storey)) → Result (List (Option Storey)) Fault → Type 0 where
  none : {k : ℕ} {text : List ℕ} {storeys : List (Option Storey)} → text ≡ [] → Loaded k text storeys (Ok storeys)
  set : {k : ℕ} {text : List ℕ} {storeys : List (Option Storey)} {r : Result (List (Option Storey)) Fault} (storey class area load : ℕ) (after : List ℕ) (next : List (Option Storey))
      → Row Short 4 (storey ∷ class ∷ area ∷ load ∷ []) → text ≡ storey_line storey class area load after
      → SetAnswer storey class area load storeys next (Ok tt) → Loaded (k + 1) after next r → Loaded k text storeys r
  refused : {k : ℕ} {text : List ℕ} {storeys : List (Option Storey)} (storey class area load : ℕ) (after : List ℕ) (e : Refusal)
      → Row Short 4 (storey ∷ class ∷ area ∷ load ∷ []) → text ≡ storey_line storey class area load after
      → SetAnswer storey class area load storeys storeys (Err e) → Loaded k text storeys (Err (fault e k))
  malformed : {k : ℕ} {text : List ℕ} {storeys : List (Option Storey)} → 0 < length text → NoLine text → Loaded k text storeys (Err (fault BodyLine k))

abbrev pub blank : List (Option Storey)
blank = replicate 40 None

abbrev pub loaded_of : Result Column Fault → Result (List (Option Storey)) Fault
loaded_of (Ok c) = Ok (storeys_of c)
loaded_of (Err f) = Err f

-- what setting the storey of a row of four numbers does; a refusal is given with the line
abbrev pub RowSet : (row : List ℕ) (line : ℕ) (before after : List (Option Storey)) → Result (Unit {0}) Fault → Type 0
RowSet row line before after (Ok u) =
    SetAnswer (slice_index row 0) (slice_index row 1) (slice_index row 2) (slice_index row 3) before after (Ok tt)
RowSet row line before after (Err f) =
    (f.line ≡ line) × SetAnswer (slice_index row 0) (slice_index row 1) (slice_index row 2) (slice_index row 3) before after (Err f.refusal)

-- BELOW s FULL x REDUCED y, in newtons with eight decimals
abbrev pub section_text : Section → List ℕ
section_text x = codes "BELOW " ++ (decimal x.storey ++ (codes " FULL " ++ (fixed8 x.full ++ (codes " REDUCED " ++ fixed8 x.reduced))))

-- the loads of the section below a storey, or that there is no such storey
abbrev pub SectionSaid : List (Option Storey) → ℕ → Result Section Refusal → Type 0
SectionSaid storeys s (Ok x) = (x.storey ≡ s) × Numbered s × Loads s storeys x.full x.reduced
SectionSaid storeys s (Err e) = (e ≡ ColumnValue) × (Numbered s → ⊥)
