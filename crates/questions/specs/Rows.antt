-- A row of a table, and the row after one record more.
use Rattle.std.specs.Prelude.{ℕ, Bool, List, Option}
use Rattle.effect.specs.Laws.{Operations}
use Rattle.questions.specs.BestParts.{added, Better, BestFrom}
use Rattle.questions.specs.declared.choice.PartChoice.{PartChoice}
use Rattle.questions.specs.Items.{Item}
use Rattle.norm.specs.declared.roles.Role.TheVariants.{Leading, Second, Other}
use Rattle.questions.specs.declared.row.Row.{Row}

module _ {V : Type 0} (n : Operations V) (items : List (Item V)) where
  -- the best choices that take c records
  pub record RowBest (done : List Bool) (c : ℕ) (row : Row) : Type 0 where
    pub neither : BestFrom n items done c 0 0 row.neither
    pub leading : BestFrom n items done c 1 0 row.leading
    pub second : BestFrom n items done c 0 1 row.second
    pub both : BestFrom n items done c 1 1 row.both

  -- r has, of what `kept` has and what `old` has with record j added, the best
  pub record Stepped (kept old : Row) (j : ℕ) (r : Row) : Type 0 where
    pub neither : Better n items kept.neither (added j Other old.neither) r.neither
    pub leading : (m : Option PartChoice) × Better n items kept.leading (added j Other old.leading) m × Better n items m (added j Leading old.neither) r.leading
    pub second : (m : Option PartChoice) × Better n items kept.second (added j Other old.second) m × Better n items m (added j Second old.neither) r.second
    pub both : (m k : Option PartChoice) × Better n items kept.both (added j Other old.both) m × Better n items m (added j Leading old.second) k × Better n items k (added j Second old.leading) r.both
