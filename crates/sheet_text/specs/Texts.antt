-- What comes of a sheet's text: its lines are read from the first on, and the first faulty line ends it.
use Rattle.std.specs.Prelude.{◌≡◌, ℕ, ◌+◌, ◌<◌, ◌≤◌, min, List, [], ◌∷◌, map, length, Ok, Err, Result, ◌≢◌}
use Rattle.std.specs.List.{AllByRecursion}
use Rattle.effect.specs.Laws.{Operations}
use Rattle.effect.specs.Notations.{Notation}
use Rattle.refusals.specs.declared.Refusal.{Refusal}
use Rattle.refusals.specs.declared.Refusal.TheVariants.{Header, BodyLine}
use Rattle.loads.specs.Letters.{letter_of}
use Rattle.loads.specs.declared.kinds.Kind.{Kind}
use Rattle.loads.specs.declared.records.Load.{Load}
use Rattle.loads.specs.declared.records.Record.{Record}
use Rattle.lines.specs.Reading.{Anything}
use Rattle.load_lines.specs.declared.names.Names.{Names}
use Rattle.sheet.specs.Held.{held, places_of}
use Rattle.sheet.specs.Ledger.{Accepted, Changed, Refuses}
use Rattle.sheet.specs.declared.changes.Change.{Change}
use Rattle.sheet.specs.declared.changes.Change.TheVariants.{Enter}
use Rattle.sheet.specs.declared.store.Sheet.{Sheet}
use Rattle.sheet_lines.specs.Bodies.{LegibleBody, body_line, body_lines}
use Rattle.sheet_lines.specs.Faults.{fault_of}
use Rattle.sheet_lines.specs.Heading.{LegibleCounts, counts_line, due, names_line}
use Rattle.sheet_lines.specs.declared.counts.Counts.{Counts}
use Rattle.sheet_lines.specs.declared.fault.Layer.TheVariants.{Reading, Sheet as SheetLayer}
use Rattle.sheet_lines.specs.declared.fault.TextFault.{TextFault}

-- line k is not of the form, is missing or is too many
abbrev pub misread : Refusal → ℕ → TextFault
misread e k = fault_of Reading e k

-- the sheet refuses the entry of line k
abbrev pub barred : Refusal → ℕ → TextFault
barred e k = fault_of SheetLayer e k

-- the places of a sheet, where so many are asked for and the memory has room for so many
abbrev pub places_in : ℕ → ℕ → ℕ
places_in asked room = min (min asked room) 32

-- no line of a valid value stands at the start of the text
abbrev pub NoLine : {A : Type 0} → (A → Type 0) → (A → List ℕ → List ℕ) → List ℕ → Type 0
NoLine {A} valid written text = (a : A) (t : List ℕ) → valid a → text ≢ written a t

-- the entry of a body of this kind
abbrev pub entry_of : {E : Type 0} → Kind → ℕ × Load E → Change E
entry_of kind x = Enter (record { number = x.0; letter = letter_of kind; load = x.1 })

-- What comes of a text in which bodies of these kinds are due, the first in line k, where p places hold the records b: the records that are then held, or the first fault. A missing line is one that is malformed.
pub data Bodies {E : Type 0} (o : Operations E) (w : Notation E) (p : ℕ) : (b : List (Record E)) (k : ℕ) (kinds : List Kind) (text : List ℕ) → Result (List (Record E)) TextFault → Type 0 where
  finished : {b : List (Record E)} {k : ℕ} {text : List ℕ} → text ≡ [] → Bodies o w p b k [] text (Ok b)
  surplus : {b : List (Record E)} {k : ℕ} {text : List ℕ} → 0 < length text → Bodies o w p b k [] text (Err (misread BodyLine k))
  malformed : {b : List (Record E)} {k : ℕ} {kind : Kind} {kinds : List Kind} {text : List ℕ}
      → NoLine (LegibleBody w) (body_line w) text → Bodies o w p b k (kind ∷ kinds) text (Err (misread BodyLine k))
  refused : {b : List (Record E)} {k : ℕ} {kind : Kind} {kinds : List Kind} {text : List ℕ} (x : ℕ × Load E) (after : List ℕ) (e : Refusal)
      → LegibleBody w x → text ≡ body_line w x after
      → Refuses o p b (entry_of kind x) e → Bodies o w p b k (kind ∷ kinds) text (Err (barred e k))
  entered : {b : List (Record E)} {k : ℕ} {kind : Kind} {kinds : List Kind} {text : List ℕ} {r : Result (List (Record E)) TextFault} (x : ℕ × Load E) (after : List ℕ) (b' : List (Record E))
      → LegibleBody w x → text ≡ body_line w x after
      → Accepted o p b (entry_of kind x) → Changed b (entry_of kind x) b'
      → Bodies o w p b' (k + 1) kinds after r → Bodies o w p b k (kind ∷ kinds) text r

-- what comes of the counts in line k and of the bodies after them, on a blank sheet of p places
pub data SheetText {E : Type 0} (o : Operations E) (w : Notation E) (p : ℕ) : (k : ℕ) (text : List ℕ) → Result (List (Record E)) TextFault → Type 0 where
  no_counts : {k : ℕ} {text : List ℕ} → NoLine LegibleCounts counts_line text → SheetText o w p k text (Err (misread Header k))
  counted : {k : ℕ} {text : List ℕ} {r : Result (List (Record E)) TextFault} (c : Counts) (after : List ℕ)
      → LegibleCounts c → text ≡ counts_line c after → Bodies o w p [] (k + 1) (due c) after r → SheetText o w p k text r

-- what comes of a whole text of at most 4,096 bytes, with a line of names before the counts
pub data WholeText {E : Type 0} (o : Operations E) (w : Notation E) (p : ℕ) : (text : List ℕ) → Result (List (Record E)) TextFault → Type 0 where
  too_long : {text : List ℕ} → 4096 < length text → WholeText o w p text (Err (misread Header 1))
  no_names : {text : List ℕ} → NoLine Anything names_line text → WholeText o w p text (Err (misread Header 1))
  named : {text : List ℕ} {r : Result (List (Record E)) TextFault} (x : Names) (after : List ℕ)
      → length text ≤ 4096 → text ≡ names_line x after → SheetText o w p 2 after r → WholeText o w p text r

-- the text is what is written of the records b: their counts, and then their lines, kind after kind
pub record TextOf {E : Type 0} (w : Notation E) (text : List ℕ) (b : List (Record E)) : Type 0 where
  pub counts : Counts
  pub few : LegibleCounts counts
  pub legible : AllByRecursion (λ r. LegibleBody w (r.number, r.load)) b
  pub kinds : map (λ r. r.kind) b ≡ due counts
  pub whole : text ≡ counts_line counts (body_lines w b)

-- the same of a whole text, with a line of names before the counts
pub record WholeOf {E : Type 0} (w : Notation E) (text : List ℕ) (b : List (Record E)) : Type 0 where
  pub names : Names
  pub after : List ℕ
  pub first : text ≡ names_line names after
  pub others : TextOf w after b

module _ {E : Type 0} where
  abbrev pub held_of : Result (Sheet E) TextFault → Result (List (Record E)) TextFault
  held_of (Ok sheet) = Ok (held sheet)
  held_of (Err f) = Err f

  abbrev pub OfSheet : Result (Sheet E) TextFault → (Sheet E → Type 0) → Type 0
  OfSheet (Ok sheet) P = P sheet
  OfSheet (Err f) P = Unit {0}

  -- r is what comes of a text, a sheet of p places or a fault; nothing else does, and the records of the sheet, written out, are that text again
  pub record ReadFrom (comes : Result (List (Record E)) TextFault → Type 0) (written : List (Record E) → Type 0) (p : ℕ) (r : Result (Sheet E) TextFault) : Type 0 where
    pub due : comes (held_of r)
    pub only : (q : Result (List (Record E)) TextFault) → comes q → q ≡ held_of r
    pub places : OfSheet r (λ sheet. places_of sheet ≡ p)
    pub back : OfSheet r (λ sheet. written (held sheet))
