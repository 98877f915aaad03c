-- What a column answers, and how it changes.
use Rattle.std.specs.Prelude.{◌≡◌, ℕ, ◌+◌, ◌-◌, ◌<◌, ◌≤◌, List, Some, None, Ok, Err, Option, Result, ◌≢◌, slice_set, true, is_some}
use Rattle.refusals.specs.declared.Refusal.{Refusal}
use Rattle.refusals.specs.declared.Refusal.TheVariants.{ColumnValue}
use Rattle.column.specs.Loads.{Numbered, storey_at, InRange, set_count, full_load, reduced_load}
use Rattle.column.specs.declared.storeys.Storey.{Storey}

-- the place of storey s, which counts from 0, or the refusal, exactly where there is no such storey
abbrev pub Place : ℕ → Result ℕ Refusal → Type 0
Place s (Ok place) = Numbered s × (s ≡ place + 1)
Place s (Err e) = (e ≡ ColumnValue) × (Numbered s → ⊥)

-- x has this class, area and load
pub record Has (class area load : ℕ) (x : Storey) : Type 0 where
  pub same_class : x.class ≡ class
  pub same_area : x.area ≡ area
  pub same_load : x.load ≡ load

-- what is to be set for a storey, or the refusal, exactly outside the ranges
abbrev pub NewStorey : (class area load : ℕ) → Result Storey Refusal → Type 0
NewStorey class area load (Ok x) = Has class area load x
NewStorey class area load (Err e) = (e ≡ ColumnValue) × (InRange class area load → ⊥)

-- storey s is then this one, and every other is as it was
pub record Replaced (s : ℕ) (storey : Option Storey) (before after : List (Option Storey)) : Type 0 where
  pub this : storey_at s after ≡ storey
  pub others : (k : ℕ) → Numbered k → (k ≢ s) → storey_at k after ≡ storey_at k before
  -- the same of the whole table, which counts its places from 0
  pub table : after ≡ slice_set before (s - 1) storey

-- what setting storey s does: it changes that storey alone, or is refused, exactly outside the ranges, and changes nothing
abbrev pub SetAnswer : (s class area load : ℕ) (before after : List (Option Storey)) → Result Unit Refusal → Type 0
SetAnswer s class area load before after (Ok _) =
    Numbered s × InRange class area load × ((x : Storey) × Has class area load x × Replaced s (Some x) before after)
SetAnswer s class area load before after (Err e) =
    (e ≡ ColumnValue) × (Numbered s → InRange class area load → ⊥) × (after ≡ before)

-- the loads of the section below storey s
pub record Loads (s : ℕ) (storeys : List (Option Storey)) (full reduced : ℕ) : Type 0 where
  pub full_sum : full ≡ full_load s storeys
  pub reduced_sum : reduced ≡ reduced_load s storeys
  pub reduced_low : reduced ≤ full
  pub full_high : full ≤ 2600000000000000000
  -- with none set, both are 0
  pub none : set_count s storeys ≡ 0 → (full ≡ 0) × (reduced ≡ 0)

-- what is answered of the section below storey s: its loads, or the refusal, exactly outside the range
abbrev pub SectionAnswer : (s : ℕ) (storeys : List (Option Storey)) → Result (ℕ × ℕ) Refusal → Type 0
SectionAnswer s storeys (Ok (full, reduced)) = Numbered s × Loads s storeys full reduced
SectionAnswer s storeys (Err e) = (e ≡ ColumnValue) × (Numbered s → ⊥)

-- s is the lowest storey that is set: it is set and none below it is. It is 0 where none is set.
pub record Lowest (storeys : List (Option Storey)) (s : ℕ) : Type 0 where
  pub high : s ≤ 40
  pub storey_set : 1 ≤ s → is_some (storey_at s storeys) ≡ true
  pub none_below : (k : ℕ) → s < k → k ≤ 40 → storey_at k storeys ≡ None
