-- What a sheet holds.
use Rattle.std.specs.Prelude.{ℕ, List, vec_items}
use Rattle.loads.specs.declared.records.Record.{Record}
use Rattle.sheet.specs.declared.store.Sheet.{Sheet}

module _ {E : Type 0} where
  -- the records, in their order
  abbrev pub held : Sheet E → List (Record E)
  held s = vec_items s.records

  -- the number of places that the sheet was opened over
  abbrev pub places_of : Sheet E → ℕ
  places_of s = s.places
