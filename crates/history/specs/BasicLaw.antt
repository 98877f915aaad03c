-- The law for histories without the special question.
use Rattle.std.specs.Prelude.{ℕ, List, [], ◌∷◌, ◌++◌, map}
use Rattle.effect.specs.Laws.{Operations}
use Rattle.loads.specs.declared.records.Record.{Record}
use Rattle.combination.specs.declared.questions.Question.TheVariants.{Basic}
use Rattle.history.specs.History.{NormAnswers, History}
use Rattle.history.specs.Law.{Plain, Law, Determined}
use Rattle.history.specs.declared.calls.BasicCall.{BasicCall}
use Rattle.history.specs.declared.calls.BasicCall.TheVariants.{Change as BasicChange, Basic as BasicAsk}
use Rattle.history.specs.declared.calls.Call.{Call}
use Rattle.history.specs.declared.calls.Call.TheVariants.{Change, Ask}
use Rattle.history.specs.Outcomes.{Outcome}

-- a call other than the special question, as a call
abbrev pub call_of : {E : Type 0} → BasicCall E → Call E
call_of (BasicChange c) = Change c
call_of BasicAsk = Ask Basic

module _ {E : Type 0} (o : Operations E) (norm : NormAnswers) where
  -- as for all calls, where only such calls were made
  pub record PerformedBasic (p : ℕ) (b : List (Record E)) (c : BasicCall E) (out : Outcome E) (b' : List (Record E)) : Type 0 where
    pub plain : Plain o norm p b (call_of c) out b'
    pub history : (cs : List (BasicCall E)) (outs : List (Outcome E)) → History o norm p (map call_of cs) outs b → History o norm p (map call_of cs ++ call_of c ∷ []) (outs ++ out ∷ []) b'
    pub law : (cs : List (BasicCall E)) (outs : List (Outcome E)) → History o norm p (map call_of cs) outs b → Law o norm p (map call_of cs ++ call_of c ∷ []) (outs ++ out ∷ []) b'
    pub determined : (cs : List (BasicCall E)) (outs : List (Outcome E)) → History o norm p (map call_of cs) outs b → Determined o p (map call_of cs ++ call_of c ∷ []) b'
