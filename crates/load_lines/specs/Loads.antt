-- How the numbers of a load are written.
use Rattle.std.specs.Prelude.{ℕ, ◌≤◌, List, [], ◌∷◌, decimal}
use Rattle.std.specs.Fmt.{signed_decimal}
use Rattle.std.specs.List.{AllByRecursion}
use Rattle.effect.specs.Notations.{Notation}
use Rattle.loads.specs.declared.records.Load.{Load}
use Rattle.lines.specs.Numeral.{Short, ShortZ}
use Rattle.lines.specs.Reading.{spaced}

module _ {E : Type 0} where
  -- the numbers of a load before its effect, in their order
  abbrev pub load_numbers : Load E → List ℕ
  load_numbers x = x.group ∷ (x.upper ∷ (x.lower ∷ (x.class ∷ (x.area ∷ (x.storeys ∷ [])))))

module _ {E : Type 0} (w : Notation E) where
  -- An effect can be read where its type has at most 4 numbers, and each has at most ten digits.
  abbrev pub LegibleEffect : E → Type 0
  LegibleEffect e = (w.count ≤ 4) × AllByRecursion ShortZ (w.numbers e)

  abbrev pub LegibleLoad : Load E → Type 0
  LegibleLoad x = AllByRecursion Short (load_numbers x) × LegibleEffect x.effect

  -- the numbers of a load and of its effect, each after one blank, and then t
  abbrev pub load_text : Load E → List ℕ → List ℕ
  load_text x t = spaced decimal (load_numbers x) (spaced signed_decimal (w.numbers x.effect) t)

  -- the same with the line end, and then t
  abbrev pub effect_end : E → List ℕ → List ℕ
  effect_end e t = spaced signed_decimal (w.numbers e) (10 ∷ t)

  abbrev pub load_end : Load E → List ℕ → List ℕ
  load_end x t = load_text x (10 ∷ t)
