-- What the two questions promise.
use Rattle.std.specs.Prelude.{◌≡◌, List, Some, None, Option}
use Rattle.effect.specs.Laws.{Operations}
use Rattle.loads.specs.declared.records.Record.{Record}
use Rattle.norm.specs.Percentages.{Percentages}
use Rattle.combination.specs.Choices.{SharesGroup}
use Rattle.combination.specs.Lists.{EachTwo}
use Rattle.combination.specs.Sound.{Sound}
use Rattle.combination.specs.Worst.{Answers, NoSpecial}
use Rattle.combination.specs.declared.answers.Answer.{Answer}
use Rattle.combination.specs.declared.questions.Question.{Question}
use Rattle.combination.specs.declared.questions.Question.TheVariants.{WithSpecial}

-- the records of a group other than 0 are of one kind
abbrev pub OneKind : {E : Type 0} → List (Record E) → Type 0
OneKind records = EachTwo (λ a b. SharesGroup a b → a.kind ≡ b.kind) records

-- the answer is the worst, where the records keep the rules; what is given of other records is left free
abbrev pub AnswersSound : {E : Type 0} → Operations E → Percentages → Question → List (Record E) → Answer E → Type 0
AnswersSound o norm q records a = Sound o records → OneKind records → Answers o norm q records a

-- there is no answer exactly where there is no special load
abbrev pub AnswersSpecial : {E : Type 0} → Operations E → Percentages → List (Record E) → Option (Answer E) → Type 0
AnswersSpecial o norm records None = NoSpecial records
AnswersSpecial o norm records (Some a) = (NoSpecial records → ⊥) × AnswersSound o norm WithSpecial records a
