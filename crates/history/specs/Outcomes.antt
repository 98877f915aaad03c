-- What a call came to: a change that is done gives nothing, and a question its answer.
use Rattle.std.specs.Prelude.{Some, None, Ok, Err, Option, Result}
use Rattle.refusals.specs.declared.Refusal.{Refusal}
use Rattle.combination.specs.declared.answers.Answer.{Answer}

abbrev pub Outcome : Type 0 → Type 0
Outcome E = Result (Option (Answer E)) Refusal

module _ {E : Type 0} where
  -- the outcome of a change
  abbrev pub outcome_from : Result (Unit {0}) Refusal → Outcome E
  outcome_from (Ok u) = Ok None
  outcome_from (Err e) = Err e

  -- the outcome of a question
  abbrev pub answer_of : Result (Answer E) Refusal → Outcome E
  answer_of (Ok a) = Ok (Some a)
  answer_of (Err e) = Err e
