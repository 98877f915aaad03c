-- The classes and their numbers.
use Rattle.std.specs.Prelude.{◌≡◌, ℕ, ◌<◌, Some, None, Ok, Err, Option, Result}
use Rattle.refusals.specs.declared.Refusal.{Refusal}
use Rattle.refusals.specs.declared.Refusal.TheVariants.{Reduction}
use Rattle.reduction.specs.Factor.{rooms, halls}
use Rattle.reduction.specs.declared.class.Class.{Class}
use Rattle.reduction.specs.declared.class.Class.TheVariants.{Whole, Rooms, Halls}
use Rattle.reduction.specs.declared.formula.Formula.{Formula}

abbrev pub number_of_class : Class → ℕ
number_of_class Whole = 0
number_of_class Rooms = 1
number_of_class Halls = 2

-- the class with this number, or the refusal, exactly where there is none
abbrev pub Decodes : ℕ → Result Class Refusal → Type 0
Decodes n (Ok class) = n ≡ number_of_class class
Decodes n (Err e) = (e ≡ Reduction) × (2 < n)

-- the formula of a class; class 0 has none
abbrev pub formula_of : Class → Option Formula
formula_of Whole = None
formula_of Rooms = Some rooms
formula_of Halls = Some halls
