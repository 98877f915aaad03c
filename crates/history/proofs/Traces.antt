-- A trace of turns: it begins blank, grows by a turn, and is a history.
use Rattle.std.proofs.Common.{◌≡◌, ℕ, ◌+◌, ◌*◌, ◌<◌, ◌≤◌, List, [], ◌∷◌, ◌++◌, map, length, get_or, take, drop, vec_capacity, sym, ap, ◌∙◌, subst, arith, length-append, take_all, Err, Result}
use lib.Seq.{take-append-le, drop-append-le}
use Rattle.std.proofs.lemmas.List.{drop_all, take_more}
use Rattle.effect.specs.Laws.{Operations}
use Rattle.loads.specs.declared.records.Record.{Record}
use Rattle.history.specs.History.{NormAnswers, Run, History}
use Rattle.history.specs.Law.{Keeps, Trace, Replayed}
use Rattle.history.specs.Logs.{turns_of, pages_of, Grown, Begun, MadeRoom, Noted}
use Rattle.history.specs.declared.logs.Log.{Log}
use Rattle.history.specs.declared.calls.Call.{Call}
use Rattle.history.specs.declared.logs.Turn.{Turn}
use Rattle.history.specs.Outcomes.{Outcome}
use Rattle.history.proofs.Histories.{history_determined}

abbrev turn : {E : Type 0} → Outcome E → ℕ → Turn E
turn out n = record { outcome = out; held = n }

module _ {E : Type 0} (o : Operations E) (norm : NormAnswers) (p : ℕ) where
  pub trace_run : (b : List (Record E)) (cs : List (Call E)) (ts : List (Turn E)) (pages b' : List (Record E)) → Trace o norm p b cs ts pages b' → Run o norm p b cs (map (λ t. t.outcome) ts) b'
  trace_run b [] [] pages b' h = h.1
  trace_run b [] (t ∷ ts) pages b' h = absurd h
  trace_run b (c ∷ cs) [] pages b' h = absurd h
  trace_run b (c ∷ cs) (t ∷ ts) pages b' h = (take t.held pages, h.1.records_and_worst, trace_run (take t.held pages) cs ts (drop t.held pages) b' h.2)

  pub trace_more : (b : List (Record E)) (cs : List (Call E)) (ts : List (Turn E)) (pages m : List (Record E)) (c : Call E) (out : Outcome E) (b' : List (Record E))
      → Trace o norm p b cs ts pages m → Keeps o norm p m c out b' → Trace o norm p b (cs ++ c ∷ []) (ts ++ turn out (length b') ∷ []) (pages ++ b') b'
  trace_more b [] [] pages m c out b' h step =
      let all : pages ++ b' ≡ b' = ap (λ l. l ++ b') h.0 in
      let page : take (length b') (pages ++ b') ≡ b' = ap (take (length b')) all ∙ take_all (length b') b' (omega arith) in (
        omega (arith, ap length all),
        subst (λ d. Keeps o norm p b c out d) (sym page) (subst (λ d. Keeps o norm p d c out b') (sym h.1) step),
        (ap (drop (length b')) all ∙ drop_all (length b') b' (omega arith), page),
      )
  trace_more b [] (t ∷ ts) pages m c out b' h step = absurd h
  trace_more b (d ∷ cs) [] pages m c out b' h step = absurd h
  trace_more b (d ∷ cs) (t ∷ ts) pages m c out b' h step =
      let page : take t.held pages ≡ take t.held (pages ++ b') = sym (take-append-le t.held pages b' h.0) in
      let rest = trace_more (take t.held pages) cs ts (drop t.held pages) m c out b' h.2 step in (
        omega (arith, h.0, length-append pages b'),
        subst (λ x. Keeps o norm p b d t.outcome x) page h.1,
        subst (λ x. Trace o norm p x (cs ++ c ∷ []) (ts ++ turn out (length b') ∷ []) (drop t.held (pages ++ b')) b') page
            (subst (λ x. Trace o norm p (take t.held pages) (cs ++ c ∷ []) (ts ++ turn out (length b') ∷ []) x b') (sym (drop-append-le t.held pages b' h.0)) rest),
      )

-- after i calls: the log m, that was handed in as l, and the records b of a sheet of p places
pub record Sofar {E : Type 0} (o : Operations E) (norm : NormAnswers) (p : ℕ) (cs : List (Call E)) (l : Log E) (i : ℕ) (m : Log E) (b : List (Record E)) : Type 0 where
  pub blank : m.opened ≡ 0
  pub count : length (turns_of m) ≡ i
  pub few : length (pages_of m) ≤ 32 * i
  pub grown : Grown l m
  pub trace : Trace o norm p [] (take i cs) (turns_of m) (pages_of m) b

module _ {E : Type 0} (o : Operations E) (norm : NormAnswers) (p : ℕ) (cs : List (Call E)) (l : Log E) where
  pub begun : (m : Log E) (b d : List (Record E)) → b ≡ [] → d ≡ b → Begun l d m → Sofar o norm p cs l 0 m b
  begun m b d none same h = record {
    blank = h.opened ∙ ap length (same ∙ none);
    count = ap length h.turns;
    few = omega (arith, ap length h.pages);
    grown = h.grown;
    trace = subst (λ ts. Trace o norm p [] [] ts (pages_of m) b) (sym h.turns) (h.pages, sym none);
  }

  -- one call more, for which room was made
  pub noted : {X : Type 0} (i : ℕ) (k m n : Log E) (r : Result (Unit {0}) X) (b b' d : List (Record E)) (c : Call E) (out : Outcome E)
      → Sofar o norm p cs l i k b → MadeRoom k r m → Keeps o norm p b c out b' → d ≡ b' → length d ≤ 32 → Noted m out d n
      → i < length cs → c ≡ get_or cs i c → Sofar o norm p cs l (i + 1) n b'
  noted i k m n r b b' d c out sofar room step same few h lt read =
      let ts : turns_of n ≡ turns_of k ++ turn out (length b') ∷ [] = h.turns ∙ ap (λ x. x ++ turn out (length d) ∷ []) room.turns ∙ ap (λ x. turns_of k ++ turn out (length x) ∷ []) same in
      let ps : pages_of n ≡ pages_of k ++ b' = h.pages ∙ ap (λ x. x ++ d) room.pages ∙ ap (λ x. pages_of k ++ x) same in
      let calls : take i cs ++ c ∷ [] ≡ take (i + 1) cs = ap (λ y. take i cs ++ y ∷ []) read ∙ sym (take_more cs i c lt) in
      let more = trace_more o norm p [] (take i cs) (turns_of k) (pages_of k) b c out b' sofar.trace step in
      record {
        blank = h.opened ∙ room.opened ∙ sofar.blank;
        count = omega (arith, ap length ts, length-append (turns_of k) (turn out (length b') ∷ []), sofar.count);
        few = omega (arith, ap length ps, length-append (pages_of k) b', sofar.few, ap length same);
        grown = record {
          turns = omega (arith, sofar.grown.turns, room.grown.turns, h.grown.turns);
          pages = omega (arith, sofar.grown.pages, room.grown.pages, h.grown.pages);
        };
        trace =
            subst (λ x. Trace o norm p [] x (turns_of n) (pages_of n) b') calls
            (subst (λ x. Trace o norm p [] (take i cs ++ c ∷ []) x (pages_of n) b') (sym ts)
            (subst (λ x. Trace o norm p [] (take i cs ++ c ∷ []) (turns_of k ++ turn out (length b') ∷ []) x b') (sym ps) more));
      }

  -- the history that the turns make
  pub sofar_history : p ≤ 32 → (i : ℕ) (m : Log E) (b : List (Record E)) → Sofar o norm p cs l i m b → History o norm p (take i cs) (map (λ t. t.outcome) (turns_of m)) b
  sofar_history small i m b sofar = (small, trace_run o norm p [] (take i cs) (turns_of m) (pages_of m) b sofar.trace)

-- with the log as it was handed in, before the run began
module _ {E : Type 0} (o : Operations E) (norm : NormAnswers) (p : ℕ) (cs : List (Call E)) (l' l : Log E) (before : Grown l' l) (small : p ≤ 32) where
  replayed : (i : ℕ) (m : Log E) (b : List (Record E)) → Sofar o norm p cs l i m b → i ≤ length cs
      → (length cs ≤ vec_capacity l'.turns → 32 * length cs ≤ vec_capacity l'.pages → i ≡ length cs) → Replayed o norm p cs l' m b
  replayed i m b sofar within whole =
      let trace = subst (λ n. Trace o norm p [] (take n cs) (turns_of m) (pages_of m) b) (sym sofar.count) sofar.trace in
      record {
        blank = sofar.blank;
        within = omega (arith, sofar.count);
        trace = trace;
        whole = λ a d. sofar.count ∙ whole a d;
        determined = history_determined o norm p (take (length (turns_of m)) cs) (map (λ t. t.outcome) (turns_of m)) b (small, trace_run o norm p [] (take (length (turns_of m)) cs) (turns_of m) (pages_of m) b trace);
      }

  -- all calls are made
  pub all_made : (i : ℕ) (m : Log E) (b : List (Record E)) → Sofar o norm p cs l i m b → i ≤ length cs → length cs ≤ i → Replayed o norm p cs l' m b
  all_made i m b sofar within end = replayed i m b sofar within (λ _ _. omega arith)

  -- there is no room for one turn more
  pub no_room : {X : Type 0} (i : ℕ) (k m : Log E) (e : X) (b : List (Record E)) → Sofar o norm p cs l i k b → i < length cs → MadeRoom k (Err e) m → Replayed o norm p cs l' m b
  no_room i k m e b sofar lt room =
      let after : Sofar o norm p cs l i m b = record {
        blank = room.opened ∙ sofar.blank;
        count = ap length room.turns ∙ sofar.count;
        few = omega (arith, ap length room.pages, sofar.few);
        grown = record { turns = omega (arith, sofar.grown.turns, room.grown.turns); pages = omega (arith, sofar.grown.pages, room.grown.pages) };
        trace = subst (λ x. Trace o norm p [] (take i cs) x (pages_of m) b) (sym room.turns) (subst (λ x. Trace o norm p [] (take i cs) (turns_of k) x b) (sym room.pages) sofar.trace);
      } in
      replayed i m b after (omega arith)
      (λ turns pages.
      absurd (room.short (record {
        turn = omega (arith, sofar.count, sofar.grown.turns, before.turns, k.turns.ok.0);
        page = omega (arith, sofar.few, sofar.grown.pages, before.pages, k.pages.ok.0);
      })))
