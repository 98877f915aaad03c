-- The history of a sheet: calls in any number and order, what each came to, and the records that they leave.
use Rattle.std.specs.Prelude.{◌≡◌, ℕ, ◌≤◌, List, [], ◌∷◌}
use Rattle.effect.specs.Laws.{Operations}
use Rattle.norm.specs.Percentages.{Percentages}
use Rattle.refusals.specs.declared.Refusal.TheVariants.{NoSpecialLoad}
use Rattle.loads.specs.declared.records.Record.{Record}
use Rattle.sheet.specs.Ledger.{Accepted, Refuses, Changed}
use Rattle.combination.specs.Worst.{NoSpecial, Answers}
use Rattle.combination.specs.declared.questions.Question.{Question}
use Rattle.combination.specs.declared.questions.Question.TheVariants.{Basic, WithSpecial}
use Rattle.history.specs.declared.calls.Call.{Call}
use Rattle.history.specs.declared.calls.Call.TheVariants.{Change, Ask}
use Rattle.history.specs.Outcomes.{Outcome}
use Rattle.std.specs.Prelude.{Ok, Err, Some, None}

-- the two answers of a norm, for basic and for special combinations
pub record NormAnswers : Type 0 where
  pub basic : Percentages
  pub special : Percentages

abbrev pub both : Percentages → Percentages → NormAnswers
both b s = record { basic = b; special = s }

abbrev pub asked : NormAnswers → Question → Percentages
asked norm Basic = norm.basic
asked norm WithSpecial = norm.special

-- a special combination is asked for, and no record is special
abbrev pub Unanswerable : {E : Type 0} → Question → List (Record E) → Type 0
Unanswerable Basic b = ⊥
Unanswerable WithSpecial b = NoSpecial b

module _ {E : Type 0} (o : Operations E) (norm : NormAnswers) where
  -- one call, where p places hold the records b. A change is refused exactly with the number that is due, else done; a question is refused with 10 exactly where it is unanswerable, else answered by the worst
  abbrev pub Step : ℕ → List (Record E) → Call E → Outcome E → List (Record E) → Type 0
  Step p b (Change c) (Ok None) b' = Accepted o p b c × Changed b c b'
  Step p b (Change c) (Err e) b' = Refuses o p b c e × (b' ≡ b)
  Step p b (Change c) (Ok (Some a)) b' = ⊥
  Step p b (Ask q) (Ok None) b' = ⊥
  Step p b (Ask q) (Err e) b' = (e ≡ NoSpecialLoad) × Unanswerable q b × (b' ≡ b)
  Step p b (Ask q) (Ok (Some a)) b' = (Unanswerable q b → ⊥) × Answers o (asked norm q) q b a × (b' ≡ b)

  -- calls with their outcomes, one by one, from the records b to the records b'
  abbrev pub Run : ℕ → List (Record E) → List (Call E) → List (Outcome E) → List (Record E) → Type 0
  Run p b [] [] b' = b ≡ b'
  Run p b [] (out ∷ outs) b' = ⊥
  Run p b (c ∷ cs) [] b' = ⊥
  Run p b (c ∷ cs) (out ∷ outs) b' = (m : List (Record E)) × Step p b c out m × Run p m cs outs b'

  -- a history of a sheet that was opened blank over p places, of which a sheet has at most 32
  abbrev pub History : ℕ → List (Call E) → List (Outcome E) → List (Record E) → Type 0
  History p cs outs b = (p ≤ 32) × Run p [] cs outs b
