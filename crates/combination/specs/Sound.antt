-- Records that keep the rules.
use Rattle.std.specs.Prelude.{◌≤◌, List, length}
use Rattle.std.specs.List.{AllByRecursion}
use Rattle.effect.specs.Laws.{Operations}
use Rattle.loads.specs.Rules.{Ruled}
use Rattle.loads.specs.declared.records.Record.{Record}

-- there are at most 32, and each keeps the rules of a record
pub record Sound {E : Type 0} (o : Operations E) (records : List (Record E)) : Type 0 where
  pub few : length records ≤ 32
  pub ruled : AllByRecursion (Ruled o) records
