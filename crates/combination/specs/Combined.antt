-- What is promised of the sum of a choice.
use Rattle.std.specs.Prelude.{◌≡◌, List}
use Rattle.effect.specs.Laws.{Operations}
use Rattle.loads.specs.declared.records.Record.{Record}
use Rattle.norm.specs.Percentages.{Percentages}
use Rattle.combination.specs.Choices.{lines}
use Rattle.combination.specs.Existence.{Existence}
use Rattle.combination.specs.Invariance.{SameWorst}
use Rattle.combination.specs.Sound.{Sound}
use Rattle.combination.specs.Worst.{comes_to}
use Rattle.combination.specs.declared.picks.Pick.{Pick}

-- the sum is exact where the records keep the rules; of the choices for any records there is a worst, and it depends on the design loads alone
pub record Combined {E : Type 0} (o : Operations E) (norm : Percentages) (records : List (Record E)) (picks : List Pick) (sum : E) : Type 0 where
  pub value : Sound o records → sum ≡ comes_to o norm (lines records picks)
  pub exists : Existence o norm
  pub same : SameWorst o norm
