-- How a record is listed.
use Rattle.std.specs.Prelude.{ℕ, List, [], ◌∷◌, ◌++◌, decimal}
use Rattle.effect.specs.Notations.{Notation}
use Rattle.loads.specs.Letters.{letter_of}
use Rattle.loads.specs.declared.kinds.Kind.{Kind}
use Rattle.loads.specs.declared.records.Record.{Record}
use Rattle.load_lines.specs.Loads.{load_text}

-- number, letter of the kind and the numbers of the load, split by one blank
abbrev pub record_text : {E : Type 0} → Notation E → Record E → List ℕ
record_text w r = decimal r.number ++ (32 ∷ (letter_of r.kind ∷ load_text w r.load []))

-- number and letter
abbrev pub record_start : ℕ → Kind → List ℕ
record_start n k = decimal n ++ (32 ∷ (letter_of k ∷ []))
