-- What is said of a call's outcome.
use Rattle.std.specs.Prelude.{ℕ, List, [], ◌∷◌, ◌++◌, codes, decimal}
use Rattle.refusals.specs.Numbers.{number_of}
use Rattle.effect.specs.Notations.{Notation}
use Rattle.loads.specs.declared.records.Record.{Record}
use Rattle.answer_lines.specs.Lines.{answer_text}
use Rattle.history.specs.History.{NormAnswers, asked}
use Rattle.history.specs.declared.calls.Call.{Call}
use Rattle.history.specs.declared.calls.Call.TheVariants.{Change, Ask}
use Rattle.history.specs.Outcomes.{Outcome}
use Rattle.std.specs.Prelude.{Ok, Err, Some, None}

abbrev pub done_text : List ℕ
done_text = codes "DONE" ++ 10 ∷ []

abbrev pub refused_text : ℕ → List ℕ
refused_text n = codes "REFUSED " ++ (decimal n ++ 10 ∷ [])

-- DONE, REFUSED with the number, or the answer to the question with its choice over the records. A change is never answered
abbrev pub reply_text : {E : Type 0} → Notation E → NormAnswers → List (Record E) → Call E → Outcome E → List ℕ
reply_text w norm records c (Ok None) = done_text
reply_text w norm records c (Err e) = refused_text (number_of e)
reply_text w norm records (Change c) (Ok (Some a)) = done_text
reply_text w norm records (Ask q) (Ok (Some a)) = answer_text w (asked norm q) q records a
