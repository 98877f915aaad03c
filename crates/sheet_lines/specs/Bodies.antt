-- The line of a record in a sheet's text.
use Rattle.std.specs.Prelude.{ℕ, List, [], ◌∷◌, ◌++◌, decimal}
use Rattle.effect.specs.Notations.{Notation}
use Rattle.loads.specs.declared.records.Load.{Load}
use Rattle.loads.specs.declared.records.Record.{Record}
use Rattle.lines.specs.Numeral.{Short}
use Rattle.load_lines.specs.Loads.{LegibleLoad, load_end}

module _ {E : Type 0} (w : Notation E) where
  -- number and load
  abbrev pub LegibleBody : ℕ × Load E → Type 0
  LegibleBody x = Short x.0 × LegibleLoad w x.1

  -- the same with the line end, and then t
  abbrev pub body_line : ℕ × Load E → List ℕ → List ℕ
  body_line x t = decimal x.0 ++ load_end w x.1 t

  -- the lines of some records
  abbrev pub body_lines : List (Record E) → List ℕ
  body_lines [] = []
  body_lines (r ∷ rs) = body_line (r.number, r.load) (body_lines rs)
