-- The loads of a storey and of a section, in units of 0.00000001 N.
use Rattle.std.specs.Prelude.{◌≡◌, ℕ, ◌-◌, ◌*◌, ◌≤◌, cond, List, take, sum_by, count_by, Some, None, Option, is_some, nat_lt, slice_index_or}
use Rattle.reduction.specs.Factor.{factor_of}
use Rattle.column.specs.declared.storeys.Storey.{Storey}

-- a storey's number, 1 at the top
abbrev pub Numbered : ℕ → Type 0
Numbered s = (1 ≤ s) × (s ≤ 40)

abbrev pub storey_at : ℕ → List (Option Storey) → Option Storey
storey_at s storeys = slice_index_or storeys (s - 1) None

-- the ranges of what is set for a storey: class, area in hundredths of a square metre, floor load in newtons per square metre
pub record InRange (class area load : ℕ) : Type 0 where
  pub class_high : class ≤ 2
  pub area_low : 1 ≤ area
  pub area_high : area ≤ 1000000
  pub load_high : load ≤ 50000

-- each storey that is set is in range
abbrev pub EachInRange : List (Option Storey) → Type 0
EachInRange storeys = (s : ℕ) (x : Storey) → storey_at s storeys ≡ Some x → InRange x.class x.area x.load

-- the load factor, in percent, for a floor load of q newtons per square metre
abbrev pub factor_of_load : ℕ → ℕ
factor_of_load q = cond (nat_lt q 2000) 130 120

-- the floor's load by its load factor, before any reduction
abbrev pub design_of : Storey → ℕ
design_of x = x.load * x.area * factor_of_load x.load

-- the full load of a storey, and the reduced one where n storeys are set down to the section
abbrev pub full_of : Option Storey → ℕ
full_of None = 0
full_of (Some x) = design_of x * 10000

abbrev pub reduced_of : ℕ → Option Storey → ℕ
reduced_of n None = 0
reduced_of n (Some x) = design_of x * factor_of x.class x.area n

-- of the storeys from 1 to s: how many are set, and their loads together
abbrev pub set_count : ℕ → List (Option Storey) → ℕ
set_count s storeys = count_by is_some (take s storeys)

abbrev pub full_load : ℕ → List (Option Storey) → ℕ
full_load s storeys = sum_by full_of (take s storeys)

abbrev pub reduced_load : ℕ → List (Option Storey) → ℕ
reduced_load s storeys = sum_by (reduced_of (set_count s storeys)) (take s storeys)

-- the loads of the storeys down to a section
pub record LoadsOf (storeys : List (Option Storey)) (full reduced : ℕ) : Type 0 where
  pub full_sum : full ≡ sum_by full_of storeys
  pub reduced_sum : reduced ≡ sum_by (reduced_of (count_by is_some storeys)) storeys
  pub reduced_low : reduced ≤ full
  pub full_high : full ≤ count_by is_some storeys * 65000000000000000
