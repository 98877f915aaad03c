-- Every call on a sheet with a history upholds the law.
-- Assumes nothing.
use Rattle.std.proofs.Common.{ℕ, ◌≤◌, List, [], ◌∷◌, ◌++◌, map}
use Rattle.std.specs.List.{AllByRecursion}
use Rattle.std.proofs.ByRecursion.{All-push}
use Rattle.effect.specs.Laws.{Operations, Laws}
use Rattle.norm.specs.Percentages.{Ranged}
use Rattle.loads.specs.declared.records.Record.{Record}
use Rattle.combination.specs.declared.questions.Question.{Question}
use Rattle.combination.specs.declared.questions.Question.TheVariants.{Basic, WithSpecial}
use Rattle.history.specs.BasicLaw.{PerformedBasic, call_of}
use Rattle.history.specs.declared.calls.BasicCall.{BasicCall}
use Rattle.history.specs.declared.calls.BasicCall.TheVariants.{Change as BasicChange, Basic as BasicAsk}
use Rattle.history.specs.History.{NormAnswers, asked, Step, Run, History}
use Rattle.history.specs.Law.{Asking, BothAsked, Keeps, KeptFrom, Law, Performed}
use Rattle.history.specs.Steps.{Stepped}
use Rattle.history.specs.declared.calls.Call.{Call}
use Rattle.history.specs.declared.calls.Call.TheVariants.{Change as Changing, Ask}
use Rattle.history.specs.Outcomes.{Outcome}
use Rattle.history.proofs.Histories.{Good, good_sound, step_good, blank_good, history_good, history_more, history_determined}
use Rattle.history.proofs.Alikeness.{alike_anywhere}

-- the percentages of a question that a call asks are in range
abbrev pub InRange : {E : Type 0} → NormAnswers → Call E → Type 0
InRange norm c = Asking c (λ q. Ranged (asked norm q))

pub all_in_range : {E : Type 0} (norm : NormAnswers) → Ranged norm.basic → Ranged norm.special → (c : Call E) → InRange norm c
all_in_range norm b s (Changing c) = tt
all_in_range norm b s (Ask Basic) = b
all_in_range norm b s (Ask WithSpecial) = s

pub each_in_range : {E : Type 0} (norm : NormAnswers) → Ranged norm.basic → Ranged norm.special → (cs : List (Call E)) → AllByRecursion (InRange norm) cs
each_in_range norm b s [] = tt
each_in_range norm b s (c ∷ cs) = (all_in_range norm b s c, each_in_range norm b s cs)

module _ {E : Type 0} (o : Operations E) (laws : Laws o) (norm : NormAnswers) (p : ℕ) (small : p ≤ 32) where
  pub keeps : (b : List (Record E)) (c : Call E) (out : Outcome E) (b' : List (Record E)) → InRange norm c → Good o p b → Step o norm p b c out b' → Keeps o norm p b c out b'
  keeps b (Changing c) out b' ranged good step = record { records_and_worst = step; invariance = tt }
  keeps b (Ask q) out b' ranged good step = record { records_and_worst = step; invariance = alike_anywhere o laws norm q ranged p b (good_sound o p b small good) out b' step }

  kept : (b : List (Record E)) (cs : List (Call E)) (outs : List (Outcome E)) (b' : List (Record E)) → AllByRecursion (InRange norm) cs → Good o p b → Run o norm p b cs outs b' → KeptFrom o norm p b cs outs b'
  kept b [] [] b' ranged good h = h
  kept b [] (out ∷ outs) b' ranged good h = h
  kept b (c ∷ cs) [] b' ranged good h = h
  kept b (c ∷ cs) (out ∷ outs) b' ranged good h =
      (h.0, keeps b c out h.0 ranged.0 good h.1, kept h.0 cs outs b' ranged.1 (step_good o norm p b c out h.0 h.1 good) h.2)

pub history_law : {E : Type 0} (o : Operations E) → Laws o → (norm : NormAnswers) (p : ℕ) (cs : List (Call E)) (outs : List (Outcome E)) (b : List (Record E)) → AllByRecursion (InRange norm) cs → History o norm p cs outs b → Law o norm p cs outs b
history_law o laws norm p cs outs b ranged h = kept o laws norm p h.0 [] cs outs b ranged (blank_good o norm p) h.1

module _ {E : Type 0} (o : Operations E) (laws : Laws o) (norm : NormAnswers) (p : ℕ) (b : List (Record E)) (c : Call E) (out : Outcome E) (b' : List (Record E)) (stepped : Stepped o norm p b c out b') where
  pub stepped_after : (cs : List (Call E)) (outs : List (Outcome E)) → History o norm p cs outs b → Step o norm p b c out b'
  stepped_after cs outs h =
      let good = history_good o norm p cs outs b h in
      stepped.step (good_sound o p b h.0 good) good.one

  pub performed : Ranged norm.basic → Ranged norm.special → Performed o norm p b c out b'
  performed basic special = record {
    plain = stepped.plain;
    history = λ cs outs h. history_more o norm p cs outs b c out b' h (stepped_after cs outs h);
    keeps = λ cs outs h. keeps o laws norm p h.0 b c out b' (all_in_range norm basic special c) (history_good o norm p cs outs b h) (stepped_after cs outs h);
    law = λ cs outs h. history_law o laws norm p (cs ++ c ∷ []) (outs ++ out ∷ []) b' (each_in_range norm basic special (cs ++ c ∷ [])) (history_more o norm p cs outs b c out b' h (stepped_after cs outs h));
    determined = λ cs outs h. history_determined o norm p (cs ++ c ∷ []) (outs ++ out ∷ []) b' (history_more o norm p cs outs b c out b' h (stepped_after cs outs h));
  }

pub basic_in_range : {E : Type 0} (norm : NormAnswers) → Ranged norm.basic → (c : BasicCall E) → InRange norm (call_of c)
basic_in_range norm b (BasicChange c) = tt
basic_in_range norm b BasicAsk = b

basics_in_range : {E : Type 0} (norm : NormAnswers) → Ranged norm.basic → (cs : List (BasicCall E)) → AllByRecursion (InRange norm) (map call_of cs)
basics_in_range norm b [] = tt
basics_in_range norm b (c ∷ cs) = (basic_in_range norm b c, basics_in_range norm b cs)

-- the same where no special question is asked, and only the first answer of the norm is known to be in range
pub performed_basic : {E : Type 0} (o : Operations E) → Laws o → (norm : NormAnswers) (p : ℕ) (b : List (Record E)) (c : BasicCall E) (out : Outcome E) (b' : List (Record E))
    → Stepped o norm p b (call_of c) out b' → Ranged norm.basic → PerformedBasic o norm p b c out b'
performed_basic o laws norm p b c out b' stepped basic = record {
  plain = stepped.plain;
  history = λ cs outs h. history_more o norm p (map call_of cs) outs b (call_of c) out b' h (stepped_after o laws norm p b (call_of c) out b' stepped (map call_of cs) outs h);
  law = λ cs outs h.
      history_law o laws norm p (map call_of cs ++ call_of c ∷ []) (outs ++ out ∷ []) b'
      (All-push (InRange norm) (map call_of cs) (call_of c) (basics_in_range norm basic cs) (basic_in_range norm basic c))
      (history_more o norm p (map call_of cs) outs b (call_of c) out b' h (stepped_after o laws norm p b (call_of c) out b' stepped (map call_of cs) outs h));
  determined = λ cs outs h.
      history_determined o norm p (map call_of cs ++ call_of c ∷ []) (outs ++ out ∷ []) b'
      (history_more o norm p (map call_of cs) outs b (call_of c) out b' h (stepped_after o laws norm p b (call_of c) out b' stepped (map call_of cs) outs h));
}

pub both_asked : {E : Type 0} (o : Operations E) → Laws o → (norm : NormAnswers) → Ranged norm.basic → Ranged norm.special → (p : ℕ) (b : List (Record E)) (s : ℕ) (d : List (Record E)) (q : Question) (out out' : Outcome E)
    → Stepped o norm p b (Ask q) out b → Stepped o norm s d (Ask q) out' d → BothAsked o norm p b s d q out out'
both_asked {E} o laws norm basic special p b s d q out out' first second cs ds outs outs' h k =
    let here = stepped_after o laws norm p b (Ask q) out b first cs outs h in
    let there = stepped_after o laws norm s d (Ask q) out' d second ds outs' k in
    let sound = good_sound o p b h.0 (history_good o norm p cs outs b h) in
    (here, there, λ same. alike_anywhere o laws norm q (all_in_range {E = E} norm basic special (Ask q)) p b sound out b here s ds outs' d k same out' d there)
