-- The worst effect depends on the design loads alone.
use Rattle.std.specs.Prelude.{◌≡◌, ◌↔◌, List}
use Rattle.effect.specs.Laws.{Operations}
use Rattle.loads.specs.declared.records.Record.{Record}
use Rattle.norm.specs.Percentages.{Percentages}
use Rattle.combination.specs.Existence.{Answerable}
use Rattle.combination.specs.Loads.{SameDesignLoads}
use Rattle.combination.specs.Sound.{Sound}
use Rattle.combination.specs.Worst.{Worst}
use Rattle.combination.specs.declared.picks.Pick.{Pick}
use Rattle.combination.specs.declared.questions.Question.{Question}

-- where two lists of records have the same design loads, both have an admissible choice or neither has, and their worst effects are equal
abbrev pub SameWorst : {E : Type 0} → Operations E → Percentages → Type 0
SameWorst {E} o norm =
    (q : Question) (first second : List (Record E)) → Sound o first → Sound o second → SameDesignLoads o first second →
    (Answerable q first ↔ Answerable q second) × ((ps qs : List Pick) (e f : E) → Worst o norm q first ps e → Worst o norm q second qs f → e ≡ f)
