-- What one call does, before its history is looked at.
use Rattle.std.specs.Prelude.{ℕ, List}
use Rattle.effect.specs.Laws.{Operations}
use Rattle.loads.specs.declared.records.Record.{Record}
use Rattle.combination.specs.Sound.{Sound}
use Rattle.questions.specs.Promises.{OneKind}
use Rattle.history.specs.History.{NormAnswers, Step}
use Rattle.history.specs.Law.{Plain}
use Rattle.history.specs.declared.calls.Call.{Call}
use Rattle.history.specs.Outcomes.{Outcome}

-- what holds of it on any sheet, and on one whose records keep the rules
pub record Stepped {E : Type 0} (o : Operations E) (norm : NormAnswers) (p : ℕ) (b : List (Record E)) (c : Call E) (out : Outcome E) (b' : List (Record E)) : Type 0 where
  pub plain : Plain o norm p b c out b'
  pub step : Sound o b → OneKind b → Step o norm p b c out b'
