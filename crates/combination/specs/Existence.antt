-- Where a question has an answer.
use Rattle.std.specs.Prelude.{◌⊎◌, List}
use Rattle.effect.specs.Laws.{Operations}
use Rattle.loads.specs.declared.records.Record.{Record}
use Rattle.norm.specs.Percentages.{Percentages}
use Rattle.combination.specs.Choices.{Admissible}
use Rattle.combination.specs.Worst.{Worst, NoSpecial}
use Rattle.combination.specs.declared.picks.Pick.{Pick}
use Rattle.combination.specs.declared.questions.Question.{Question}
use Rattle.combination.specs.declared.questions.Question.TheVariants.{Basic, WithSpecial}

-- there is an admissible choice
abbrev pub Answerable : {E : Type 0} → Question → List (Record E) → Type 0
Answerable q records = (picks : List Pick) × Admissible q records picks

-- a basic choice always exists, a special one exactly where there is a special load; and where a choice exists, so does a worst effect
pub record Existence {E : Type 0} (o : Operations E) (norm : Percentages) : Type 0 where
  pub basic : (records : List (Record E)) → Answerable Basic records
  pub special : (records : List (Record E)) → Answerable WithSpecial records ⊎ NoSpecial records
  pub not_both : (records : List (Record E)) → Answerable WithSpecial records → NoSpecial records → ⊥
  pub worst : (q : Question) (records : List (Record E)) → Answerable q records → (choice : List Pick) × (effect : E) × Worst o norm q records choice effect
