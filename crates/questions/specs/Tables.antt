-- A table of part choices, carried from group to group.
use Rattle.std.specs.Prelude.{◌≡◌, ℕ, ◌<◌, ◌≤◌, Bool, false, ◌⊎◌, List, ◌∷◌, length, replicate, Some, None, Option, ◌≢◌, slice_index_or}
use Rattle.effect.specs.Laws.{Operations}
use Rattle.questions.specs.PartChoices.{From, group_at, Marked, chosen, Admissible, Best}
use Rattle.questions.specs.Rows.{RowBest}
use Rattle.questions.specs.declared.choice.Assignment.TheVariants.{Out}
use Rattle.questions.specs.declared.choice.PartChoice.{PartChoice}
use Rattle.questions.specs.Items.{Item}
use Rattle.norm.specs.declared.roles.Role.{Role}
use Rattle.questions.specs.declared.row.Row.{Row}
use Rattle.questions.specs.declared.table.Table.{Table}

-- no choice of marked records takes more than n
abbrev pub TakesAtMost : {V : Type 0} → List (Item V) → List Bool → ℕ → Type 0
TakesAtMost items flags n = (c l s : ℕ) (ps : List (Option Role)) → From items flags c l s ps → c ≤ n

-- each row up to the limit holds the best choices from the records that are done
pub record TableBest {V : Type 0} (n : Operations V) (items : List (Item V)) (t : Table) : Type 0 where
  pub size : length t.rows ≡ 33
  pub flags : length t.done ≡ 32
  pub few : t.groups ≤ 32
  pub rows_few : t.limit ≤ 32
  pub bound : TakesAtMost items t.done t.groups
  pub each : (c : ℕ) (d : Row) → c ≤ t.limit → RowBest n items t.done c (slice_index_or t.rows c d)

-- k and i stand in one group other than 0
abbrev pub Kin : {V : Type 0} → List (Item V) → ℕ → ℕ → Type 0
Kin items i k = (group_at items k ≡ group_at items i) × (group_at items i ≢ 0)

-- k is a wanted record of the group of i; a record of group 0 stands alone
abbrev pub Fellow : {V : Type 0} → List (Item V) → List Bool → ℕ → ℕ → Type 0
Fellow items wanted i k = (k ≡ i) ⊎ (Kin items i k × Marked wanted k)

-- of no group the wanted records are done in part
abbrev pub Closed : {V : Type 0} → List (Item V) → List Bool → List Bool → Type 0
Closed items wanted done = (k m : ℕ) → m < length items → Marked wanted m → Marked done k → (Marked done m → ⊥) → group_at items k ≡ group_at items m → group_at items m ≡ 0

-- the group of i is done, and nothing else besides what was
pub record Carried {V : Type 0} (items : List (Item V)) (wanted : List Bool) (i : ℕ) (before after : List Bool) : Type 0 where
  pub wider : (k : ℕ) → Marked before k → Marked after k
  pub covered : (k : ℕ) → k < length items → Fellow items wanted i k → Marked after k
  pub only : (k : ℕ) → Marked after k → Marked before k ⊎ Fellow items wanted i k

-- the best choice that takes k of the wanted records, or None where there is no such choice
abbrev pub Answers : {V : Type 0} → Operations V → List (Item V) → List Bool → ℕ → Option PartChoice → Type 0
Answers n items wanted k None = (ps : List (Option Role)) → Admissible items wanted k ps → ⊥
Answers n items wanted k (Some p) = Best n items wanted k (chosen items p)

-- no record is done: the one choice takes none
abbrev pub empty_row : Row
empty_row = record { neither = None; leading = None; second = None; both = None }

abbrev pub first_row : Row
first_row = record { neither = Some (record { assignments = replicate 32 Out }); leading = None; second = None; both = None }

abbrev pub blank_table : ℕ → Table
blank_table limit = record { rows = first_row ∷ replicate 32 empty_row; done = replicate 32 false; groups = 0; limit = limit }
