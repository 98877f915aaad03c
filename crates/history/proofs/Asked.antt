-- A question on a sheet that has a history is answered by the worst.
-- Assumes nothing.
use Rattle.std.proofs.Common.{ℕ, List, Ok, Err, Result}
use Rattle.effect.specs.Laws.{Operations, Laws}
use Rattle.norm.specs.Percentages.{Percentages}
use Rattle.refusals.specs.declared.Refusal.{Refusal}
use Rattle.loads.specs.declared.records.Record.{Record}
use Rattle.combination.specs.declared.answers.Answer.{Answer}
use Rattle.combination.specs.declared.questions.Question.TheVariants.{Basic, WithSpecial}
use Rattle.history.specs.History.{NormAnswers, both}
use Rattle.history.specs.Outcomes.{answer_of}
use Rattle.history.specs.Questions.{BasicAsked, SpecialAsked}
use Rattle.history.specs.Steps.{Stepped}
use Rattle.history.specs.declared.calls.Call.TheVariants.{Ask}
use Rattle.std.specs.Prelude.{Ok, Err, Some}
use Rattle.history.proofs.Laws.{stepped_after}

module _ {E : Type 0} (o : Operations E) (laws : Laws o) (p : ℕ) (b : List (Record E)) where
  pub basic_asked : (basic : Percentages) (a : Answer E) → ((special : Percentages) → Stepped o (both basic special) p b (Ask Basic) (Ok (Some a)) b) → BasicAsked o basic p b a
  basic_asked basic a stepped special cs outs h = (stepped_after o laws (both basic special) p b (Ask Basic) (Ok (Some a)) b (stepped special) cs outs h).1

  pub special_asked : (norm : NormAnswers) (r : Result (Answer E) Refusal) → Stepped o norm p b (Ask WithSpecial) (answer_of r) b → SpecialAsked o norm p b r
  special_asked norm (Ok a) stepped = (stepped.plain.0, λ cs outs h. (stepped_after o laws norm p b (Ask WithSpecial) (Ok (Some a)) b stepped cs outs h).1)
  special_asked norm (Err e) stepped = (stepped.plain.0, stepped.plain.1)
