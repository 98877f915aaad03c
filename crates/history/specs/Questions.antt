-- What is promised of a question to a sheet of p places that holds the records b.
use Rattle.std.specs.Prelude.{◌≡◌, ℕ, List, Ok, Err, Result}
use Rattle.effect.specs.Laws.{Operations}
use Rattle.norm.specs.Percentages.{Percentages}
use Rattle.refusals.specs.declared.Refusal.{Refusal}
use Rattle.refusals.specs.declared.Refusal.TheVariants.{NoSpecialLoad}
use Rattle.loads.specs.declared.records.Record.{Record}
use Rattle.combination.specs.Worst.{NoSpecial, Answers}
use Rattle.combination.specs.declared.answers.Answer.{Answer}
use Rattle.combination.specs.declared.questions.Question.TheVariants.{Basic, WithSpecial}
use Rattle.history.specs.History.{NormAnswers, both, History}
use Rattle.history.specs.declared.calls.Call.{Call}
use Rattle.history.specs.Outcomes.{Outcome}

module _ {E : Type 0} (o : Operations E) where
  -- after any history the answer is the worst, whatever stands in the place of the norm's second answer
  abbrev pub BasicAsked : Percentages → ℕ → List (Record E) → Answer E → Type 0
  BasicAsked basic p b a = (special : Percentages) (cs : List (Call E)) (outs : List (Outcome E)) → History o (both basic special) p cs outs b → Answers o basic Basic b a

  -- refused exactly where no record is special; else, after any history, the answer is the worst
  abbrev pub SpecialAsked : NormAnswers → ℕ → List (Record E) → Result (Answer E) Refusal → Type 0
  SpecialAsked norm p b (Ok a) = (NoSpecial b → ⊥) × ((cs : List (Call E)) (outs : List (Outcome E)) → History o norm p cs outs b → Answers o norm.special WithSpecial b a)
  SpecialAsked norm p b (Err e) = (e ≡ NoSpecialLoad) × NoSpecial b
