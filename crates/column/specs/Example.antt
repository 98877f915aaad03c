-- A column of two equal storeys.
use Rattle.std.specs.Prelude.{◌≡◌, List, Some, None, Option, replicate, slice_set}
use Rattle.column.specs.Answer.{Has}
use Rattle.column.specs.declared.storeys.Storey.{Storey}

pub record TwoStoreys (storeys : List (Option Storey)) : Type 0 where
  pub top : Storey
  pub lower : Storey
  pub top_has : Has 1 3600 1500 top
  pub lower_has : Has 1 3600 1500 lower
  pub column : storeys ≡ slice_set (slice_set (replicate 40 None) 0 (Some top)) 1 (Some lower)
