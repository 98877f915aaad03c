-- The law: what is never broken in the history of a sheet.
use Rattle.std.specs.Prelude.{◌≡◌, ℕ, ◌*◌, ◌≤◌, List, [], ◌∷◌, ◌++◌, length, take, drop, vec_capacity}
use Rattle.effect.specs.Laws.{Operations}
use Rattle.refusals.specs.declared.Refusal.TheVariants.{NoSpecialLoad}
use Rattle.loads.specs.declared.records.Record.{Record}
use Rattle.combination.specs.Loads.{SameDesignLoads}
use Rattle.combination.specs.declared.questions.Question.{Question}
use Rattle.history.specs.History.{NormAnswers, Unanswerable, Step, History}
use Rattle.history.specs.Logs.{turns_of, pages_of}
use Rattle.history.specs.declared.calls.Call.{Call}
use Rattle.history.specs.declared.calls.Call.TheVariants.{Change, Ask}
use Rattle.history.specs.declared.logs.Log.{Log}
use Rattle.history.specs.declared.logs.Turn.{Turn}
use Rattle.history.specs.Outcomes.{Outcome}
use Rattle.std.specs.Prelude.{Ok, Err, Some, None}

module _ {E : Type 0} where
  -- the same refusal, or answers with the same effect
  abbrev pub SameAnswer : Outcome E → Outcome E → Type 0
  SameAnswer (Ok None) out = ⊥
  SameAnswer (Err e) (Ok None) = ⊥
  SameAnswer (Err e) (Err f) = e ≡ f
  SameAnswer (Err e) (Ok (Some a)) = ⊥
  SameAnswer (Ok (Some a)) (Ok None) = ⊥
  SameAnswer (Ok (Some a)) (Err f) = ⊥
  SameAnswer (Ok (Some a)) (Ok (Some d)) = a.effect ≡ d.effect

  -- P of the question that a call asks
  abbrev pub Asking : Call E → (Question → Type 0) → Type 0
  Asking (Change c) P = Unit {0}
  Asking (Ask q) P = P q

module _ {E : Type 0} (o : Operations E) (norm : NormAnswers) where
  -- the question q had this outcome on the records b: any sheet with the same design loads, over its own places and after any history of its own, gets the same effect or the same refusal for it
  abbrev pub Alike : List (Record E) → Outcome E → Question → Type 0
  Alike b out q =
      (p : ℕ) (cs : List (Call E)) (outs : List (Outcome E)) (d : List (Record E)) → History o norm p cs outs d → SameDesignLoads o b d →
      (out' : Outcome E) (d' : List (Record E)) → Step o norm p d (Ask q) out' d' → SameAnswer out out'

  -- one call keeps the law. Records: the sheet then holds exactly the ledger's records, and was refused exactly with the ledger's number. Worst: an answer shows an admissible choice that comes to the reported effect, and every admissible choice comes to at most that. Invariance: a question is answered alike on any sheet with the same design loads.
  pub record Keeps (p : ℕ) (b : List (Record E)) (c : Call E) (out : Outcome E) (b' : List (Record E)) : Type 0 where
    pub records_and_worst : Step o norm p b c out b'
    pub invariance : Asking c (Alike b out)

  -- every call keeps it, from the records b to the records b'
  abbrev pub KeptFrom : ℕ → List (Record E) → List (Call E) → List (Outcome E) → List (Record E) → Type 0
  KeptFrom p b [] [] b' = b ≡ b'
  KeptFrom p b [] (out ∷ outs) b' = ⊥
  KeptFrom p b (c ∷ cs) [] b' = ⊥
  KeptFrom p b (c ∷ cs) (out ∷ outs) b' = (m : List (Record E)) × Keeps p b c out m × KeptFrom p m cs outs b'

  -- the law of a sheet that was opened blank over p places, at every moment of its history
  abbrev pub Law : ℕ → List (Call E) → List (Outcome E) → List (Record E) → Type 0
  Law p cs outs b = KeptFrom p [] cs outs b

module _ {E : Type 0} (o : Operations E) where
  -- the places and the calls alone determine the records: under no norm do they lead to others
  abbrev pub Determined : ℕ → List (Call E) → List (Record E) → Type 0
  Determined p cs b = (norm : NormAnswers) (outs : List (Outcome E)) (d : List (Record E)) → History o norm p cs outs d → d ≡ b

module _ {E : Type 0} (o : Operations E) (norm : NormAnswers) where
  -- what holds of a call on any sheet, whether it has a history or not: a change is due, a question is refused exactly where it is unanswerable and changes nothing
  abbrev pub Plain : ℕ → List (Record E) → Call E → Outcome E → List (Record E) → Type 0
  Plain p b (Change c) out b' = Step o norm p b (Change c) out b'
  Plain p b (Ask q) (Ok None) b' = ⊥
  Plain p b (Ask q) (Err e) b' = (e ≡ NoSpecialLoad) × Unanswerable q b × (b' ≡ b)
  Plain p b (Ask q) (Ok (Some a)) b' = (Unanswerable q b → ⊥) × (b' ≡ b)

  -- a sheet of p places held the records b, and the call c came to an outcome and left b'
  pub record Performed (p : ℕ) (b : List (Record E)) (c : Call E) (out : Outcome E) (b' : List (Record E)) : Type 0 where
    pub plain : Plain p b c out b'
    -- whatever history the sheet has, it then has that history and this call
    pub history : (cs : List (Call E)) (outs : List (Outcome E)) → History o norm p cs outs b → History o norm p (cs ++ c ∷ []) (outs ++ out ∷ []) b'
    -- this call keeps the law
    pub keeps : (cs : List (Call E)) (outs : List (Outcome E)) → History o norm p cs outs b → Keeps o norm p b c out b'
    -- and the law holds at every moment of the history
    pub law : (cs : List (Call E)) (outs : List (Outcome E)) → History o norm p cs outs b → Law o norm p (cs ++ c ∷ []) (outs ++ out ∷ []) b'
    pub determined : (cs : List (Call E)) (outs : List (Outcome E)) → History o norm p cs outs b → Determined o p (cs ++ c ∷ []) b'

  -- turns from the records b to the records b', with what the sheet held after each in pages: each call keeps the law, and the sheet then holds the ledger's next records
  abbrev pub Trace : ℕ → List (Record E) → List (Call E) → List (Turn E) → List (Record E) → List (Record E) → Type 0
  Trace p b [] [] pages b' = (pages ≡ []) × (b ≡ b')
  Trace p b [] (t ∷ ts) pages b' = ⊥
  Trace p b (c ∷ cs) [] pages b' = ⊥
  Trace p b (c ∷ cs) (t ∷ ts) pages b' =
      (t.held ≤ length pages) × Keeps o norm p b c t.outcome (take t.held pages) × Trace p (take t.held pages) cs ts (drop t.held pages) b'

  -- calls on a sheet of p places that was opened blank: l is the log as it was handed in, and m the log of the turns that were made, which left the records b
  pub record Replayed (p : ℕ) (cs : List (Call E)) (l m : Log E) (b : List (Record E)) : Type 0 where
    -- the sheet held nothing when it was opened
    pub blank : m.opened ≡ 0
    -- the turns are those of the first calls
    pub within : length (turns_of m) ≤ length cs
    pub trace : Trace p [] (take (length (turns_of m)) cs) (turns_of m) (pages_of m) b
    -- all calls are made where the log was handed in with memory for as many turns, with 32 records each
    pub whole : length cs ≤ vec_capacity l.turns → 32 * length cs ≤ vec_capacity l.pages → length (turns_of m) ≡ length cs
    -- and no other records come of these calls
    pub determined : Determined o p (take (length (turns_of m)) cs) b

  -- the question q asked of two sheets, which hold b and d: after any histories each has the outcome that is due, and the two are alike where the design loads are the same
  abbrev pub BothAsked : ℕ → List (Record E) → ℕ → List (Record E) → Question → Outcome E → Outcome E → Type 0
  BothAsked p b s d q out out' =
      (cs ds : List (Call E)) (outs outs' : List (Outcome E)) → History o norm p cs outs b → History o norm s ds outs' d →
      Step o norm p b (Ask q) out b × Step o norm s d (Ask q) out' d × (SameDesignLoads o b d → SameAnswer out out')
