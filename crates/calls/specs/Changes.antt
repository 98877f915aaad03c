-- The line of a call that changes a sheet.
use Rattle.std.specs.Prelude.{◌≡◌, ℕ, List, ◌++◌}
use Rattle.effect.specs.Notations.{Notation}
use Rattle.sheet.specs.declared.changes.Change.{Change}
use Rattle.sheet.specs.declared.changes.Change.TheVariants.{Enter, Alter, Strike}
use Rattle.lines.specs.Numeral.{Short}
use Rattle.lines.specs.Reading.{last_field}
use Rattle.calls.specs.Entries.{LegibleEntry, entry_end}
use Rattle.calls.specs.Names.{change_word}
use Rattle.calls.specs.declared.names.ChangeName.{ChangeName}
use Rattle.calls.specs.declared.names.ChangeName.TheVariants.{Enter as NameEnter, Alter as NameAlter, Strike as NameStrike}

abbrev pub name_of : {E : Type 0} → Change E → ChangeName
name_of (Enter x) = NameEnter
name_of (Alter x) = NameAlter
name_of (Strike n) = NameStrike

module _ {E : Type 0} (w : Notation E) where
  -- a change that a line can hold
  abbrev pub Legible : Change E → Type 0
  Legible (Enter x) = LegibleEntry w x
  Legible (Alter x) = LegibleEntry w x
  Legible (Strike n) = Short n

  abbrev pub OfName : ChangeName → Change E → Type 0
  OfName name c = (name_of c ≡ name) × Legible c

  -- the arguments, each after one blank, then the line end, and then t
  abbrev pub arguments_end : Change E → List ℕ → List ℕ
  arguments_end (Enter x) t = entry_end w x t
  arguments_end (Alter x) t = entry_end w x t
  arguments_end (Strike n) t = last_field n t

  -- the call's name and its arguments, then the line end, and then t
  abbrev pub change_line : Change E → List ℕ → List ℕ
  change_line c t = change_word (name_of c) ++ arguments_end c t
