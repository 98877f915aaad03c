-- The arguments of a call that enters or alters a record.
use Rattle.std.specs.Prelude.{◌≡◌, ℕ, ◌<◌, false, List, [], ◌∷◌, ◌++◌, decimal}
use Rattle.effect.specs.Notations.{Notation}
use Rattle.sheet.specs.declared.changes.Entry.{Entry}
use Rattle.lines.specs.Lines.{separates}
use Rattle.lines.specs.Numeral.{Short}
use Rattle.load_lines.specs.Loads.{LegibleLoad, load_end}

-- A kind letter is one byte, neither a blank nor a line end.
abbrev pub IsByte : ℕ → Type 0
IsByte l = l < 256

abbrev pub Letter : ℕ → Type 0
Letter l = IsByte l × (separates l ≡ false)

abbrev pub letter_text : ℕ → List ℕ
letter_text l = l ∷ []

-- number and letter, each after one blank, and then t
abbrev pub LegibleStart : ℕ × ℕ → Type 0
LegibleStart p = Short p.0 × Letter p.1

abbrev pub start_text : ℕ × ℕ → List ℕ → List ℕ
start_text p t = 32 ∷ (decimal p.0 ++ (32 ∷ (p.1 ∷ t)))

module _ {E : Type 0} (w : Notation E) where
  -- number, letter and load
  abbrev pub LegibleEntry : Entry E → Type 0
  LegibleEntry x = Short x.number × Letter x.letter × LegibleLoad w x.load

  -- each field after one blank, then the line end, and then t
  abbrev pub entry_end : Entry E → List ℕ → List ℕ
  entry_end x t = 32 ∷ (decimal x.number ++ (32 ∷ (x.letter ∷ load_end w x.load t)))
