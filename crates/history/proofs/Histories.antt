-- What every history keeps, and a history with one call more.
-- Assumes nothing.
use Rattle.std.proofs.Common.{◌≡◌, ℕ, ◌<◌, ◌≤◌, List, [], ◌∷◌, ◌++◌, length, Some, sym, refl, ap, ◌∙◌, subst, ⊎_elim, arith, length-append}
use Rattle.std.specs.List.{AllByRecursion}
use Rattle.std.proofs.ByRecursion.{All-push, All-append}
use Rattle.std.proofs.lemmas.Bool.{cases_lt}
use Rattle.effect.specs.Laws.{Operations}
use Rattle.refusals.specs.declared.Refusal.TheVariants.{NumberTaken, SheetFull}
use Rattle.loads.specs.Rules.{Ruled}
use Rattle.loads.specs.declared.kinds.Kind.{Kind}
use Rattle.loads.specs.declared.records.Record.{Record}
use Rattle.sheet.specs.Ledger.{Replaced, Changed, Accepted, Missing, Agrees, Other, record_of}
use Rattle.sheet.specs.declared.changes.Change.{Change}
use Rattle.sheet.specs.declared.changes.Change.TheVariants.{Enter, Alter, Strike}
use Rattle.sheet.proofs.Lists.{all_front, all_back}
use Rattle.sheet.proofs.Stable.{enter_ruled, alter_ruled, enter_agrees, alter_agrees}
use Rattle.combination.specs.Choices.{SharesGroup}
use Rattle.combination.specs.Sound.{Sound}
use Rattle.questions.specs.Promises.{OneKind}
use Rattle.history.specs.History.{NormAnswers, Step, Run, History}
use Rattle.history.specs.Law.{Determined}
use Rattle.history.specs.declared.calls.Call.{Call}
use Rattle.history.specs.declared.calls.Call.TheVariants.{Change as Changing, Ask}
use Rattle.history.specs.Outcomes.{Outcome}
use Rattle.std.specs.Prelude.{Ok, Err, Some, None}
use Rattle.history.proofs.Ledgers.{Distinct, missing_stable, distinct_push, distinct_swap, distinct_drop, changed_once, missing_beside}
use Rattle.history.proofs.Pairs.{each_two_push, each_two_swap, each_two_drop}

replaced_all : {E : Type 0} (P : Record E → Type 0) (b : List (Record E)) (n : ℕ) (new b' : List (Record E)) → Replaced b n new b' → AllByRecursion P new → AllByRecursion P b → AllByRecursion P b'
replaced_all P b n new b' h fresh all =
    let parts = subst (AllByRecursion P) h.3 all in
    subst (AllByRecursion P) (sym h.5) (All-append P h.0 (new ++ h.2) (all_front P h.0 h.1 h.2 parts) (All-append P new h.2 fresh (all_back P h.0 h.1 h.2 parts)))

replaced_few : {E : Type 0} (b : List (Record E)) (n : ℕ) (new b' : List (Record E)) → Replaced b n new b' → length new ≤ 1 → length b' ≤ length b
replaced_few b n new b' h one =
    omega (arith, ap length h.3, length-append h.0 (h.1 ∷ h.2), ap length h.5, length-append h.0 (new ++ h.2), length-append new h.2)

-- the records have room in p places, keep the rules, have distinct numbers, and those of a group are of one kind
pub record Good {E : Type 0} (o : Operations E) (p : ℕ) (b : List (Record E)) : Type 0 where
  pub few : length b ≤ p
  pub ruled : AllByRecursion (Ruled o) b
  pub distinct : Distinct b
  pub one : OneKind b

pub good_sound : {E : Type 0} (o : Operations E) (p : ℕ) (b : List (Record E)) → p ≤ 32 → Good o p b → Sound o b
good_sound o p b few g = record { few = omega (arith, g.few); ruled = g.ruled }

module _ {E : Type 0} (k : Kind) (n g : ℕ) where
  abbrev Same : Record E → Record E → Type 0
  Same a b = SharesGroup a b → a.kind ≡ b.kind

  -- a record of the kind k in the group g, beside those that agree with it
  before_it : (new : Record E) → new.kind ≡ k → new.load.group ≡ g → (xs : List (Record E)) → AllByRecursion (λ r. Agrees k g r) xs → AllByRecursion (λ r. Same r new) xs
  before_it new kind group [] h = tt
  before_it new kind group (r ∷ xs) h =
      (λ shared. h.0 (λ none. omega (arith, shared.0, shared.1)) (shared.1 ∙ group) ∙ sym kind, before_it new kind group xs h.1)

  after_it : (new : Record E) → new.kind ≡ k → new.load.group ≡ g → (xs : List (Record E)) → AllByRecursion (λ r. Agrees k g r) xs → AllByRecursion (λ r. Same new r) xs
  after_it new kind group [] h = tt
  after_it new kind group (r ∷ xs) h =
      (λ shared. kind ∙ sym (h.0 (λ none. omega (arith, shared.0, group)) (sym shared.1 ∙ group)), after_it new kind group xs h.1)

  others : (xs : List (Record E)) → Missing n xs → AllByRecursion (λ r. Other (Some n) r → Agrees k g r) xs → AllByRecursion (λ r. Agrees k g r) xs
  others [] m h = tt
  others (r ∷ xs) m h = (h.0 m.0, others xs m.1 h.1)

module _ {E : Type 0} (o : Operations E) where
  changed_good : (p : ℕ) (b : List (Record E)) (c : Change E) (b' : List (Record E)) → Accepted o p b c → Changed b c b' → Good o p b → Good o p b'
  changed_good p b (Enter x) b' clear h w =
      let new = record_of x h.0 in
      subst (Good o p) (sym h.2) (record {
        few = ⊎_elim (λ (lt : length b < p). omega (arith, length-append b (new ∷ []))) (λ le. absurd (clear SheetFull le)) (cases_lt (length b) p);
        ruled = All-push (Ruled o) b new w.ruled (enter_ruled o p b x h.0 h.1 clear);
        distinct = distinct_push b new (missing_stable x.number b (clear NumberTaken)) w.distinct;
        one = each_two_push _ b new (before_it h.0 x.number x.load.group new refl refl b (enter_agrees o p b x h.0 h.1 clear)) w.one;
      })
  changed_good p b (Alter x) b' clear h w =
      let new = record_of x h.0 in
      let r = h.2 in
      let apart = missing_beside r.0 r.1 r.2 x.number r.4 (subst Distinct r.3 w.distinct) in
      let agree = subst (AllByRecursion (λ y. Other (Some x.number) y → Agrees h.0 x.load.group y)) r.3 (alter_agrees o p b x h.0 h.1 clear) in
      record {
        few = omega (arith, w.few, replaced_few b x.number (new ∷ []) b' r (omega arith));
        ruled = replaced_all (Ruled o) b x.number (new ∷ []) b' r (alter_ruled o p b x h.0 h.1 clear, tt) w.ruled;
        distinct = subst Distinct (sym r.5) (distinct_swap r.0 r.1 new r.2 (sym r.4) (subst Distinct r.3 w.distinct));
        one = subst OneKind (sym r.5)
            (each_two_swap _ r.0 r.1 new r.2
            (before_it h.0 x.number x.load.group new refl refl r.0 (others h.0 x.number x.load.group r.0 apart.0 (all_front _ r.0 r.1 r.2 agree)))
            (after_it h.0 x.number x.load.group new refl refl r.2 (others h.0 x.number x.load.group r.2 apart.1 (all_back _ r.0 r.1 r.2 agree)))
            (subst OneKind r.3 w.one));
      }
  changed_good p b (Strike n) b' clear h w = record {
    few = omega (arith, w.few, replaced_few b n [] b' h (omega arith));
    ruled = replaced_all (Ruled o) b n [] b' h tt w.ruled;
    distinct = subst Distinct (sym h.5) (distinct_drop h.0 h.1 h.2 (subst Distinct h.3 w.distinct));
    one = subst OneKind (sym h.5) (each_two_drop _ h.0 h.1 h.2 (subst OneKind h.3 w.one));
  }

module _ {E : Type 0} (o : Operations E) (norm : NormAnswers) where
  pub step_good : (p : ℕ) (b : List (Record E)) (c : Call E) (out : Outcome E) (b' : List (Record E)) → Step o norm p b c out b' → Good o p b → Good o p b'
  step_good p b (Changing c) (Ok None) b' h w = changed_good o p b c b' h.0 h.1 w
  step_good p b (Changing c) (Err e) b' h w = subst (Good o p) (sym h.1) w
  step_good p b (Changing c) (Ok (Some a)) b' h w = absurd h
  step_good p b (Ask q) (Ok None) b' h w = absurd h
  step_good p b (Ask q) (Err e) b' h w = subst (Good o p) (sym h.2) w
  step_good p b (Ask q) (Ok (Some a)) b' h w = subst (Good o p) (sym h.2) w

  run_good : (p : ℕ) (b : List (Record E)) (cs : List (Call E)) (outs : List (Outcome E)) (b' : List (Record E)) → Run o norm p b cs outs b' → Good o p b → Good o p b'
  run_good p b [] [] b' h w = subst (Good o p) h w
  run_good p b [] (out ∷ outs) b' h w = absurd h
  run_good p b (c ∷ cs) [] b' h w = absurd h
  run_good p b (c ∷ cs) (out ∷ outs) b' h w = run_good p h.0 cs outs b' h.2 (step_good p b c out h.0 h.1 w)

  pub blank_good : (p : ℕ) → Good o p []
  blank_good p = record { few = omega arith; ruled = tt; distinct = tt; one = tt }

  -- what every history keeps
  pub history_good : (p : ℕ) (cs : List (Call E)) (outs : List (Outcome E)) (b : List (Record E)) → History o norm p cs outs b → Good o p b
  history_good p cs outs b h = run_good p [] cs outs b h.1 (blank_good p)

  run_more : (p : ℕ) (b : List (Record E)) (cs : List (Call E)) (outs : List (Outcome E)) (m : List (Record E)) (c : Call E) (out : Outcome E) (b' : List (Record E)) → Run o norm p b cs outs m → Step o norm p m c out b' → Run o norm p b (cs ++ c ∷ []) (outs ++ out ∷ []) b'
  run_more p b [] [] m c out b' h step = (b', subst (λ t. Step o norm p t c out b') (sym h) step, refl)
  run_more p b [] (x ∷ outs) m c out b' h step = absurd h
  run_more p b (x ∷ cs) [] m c out b' h step = absurd h
  run_more p b (x ∷ cs) (y ∷ outs) m c out b' h step = (h.0, h.1, run_more p h.0 cs outs m c out b' h.2 step)

  pub history_more : (p : ℕ) (cs : List (Call E)) (outs : List (Outcome E)) (b : List (Record E)) (c : Call E) (out : Outcome E) (b' : List (Record E)) → History o norm p cs outs b → Step o norm p b c out b' → History o norm p (cs ++ c ∷ []) (outs ++ out ∷ []) b'
  history_more p cs outs b c out b' h step = (h.0, run_more p [] cs outs b c out b' h.1 step)

module _ {E : Type 0} (o : Operations E) where
  step_once : (norm norm' : NormAnswers) (p : ℕ) (b : List (Record E)) (c : Call E) (out out' : Outcome E) (m d : List (Record E)) → Distinct b → Step o norm p b c out m → Step o norm' p b c out' d → m ≡ d
  step_once norm norm' p b (Changing c) (Ok None) (Ok None) m d distinct h k = changed_once b c m d distinct h.1 k.1
  step_once norm norm' p b (Changing c) (Ok None) (Err f) m d distinct h k = absurd (h.0 f k.0.0)
  step_once norm norm' p b (Changing c) (Err e) (Ok None) m d distinct h k = absurd (k.0 e h.0.0)
  step_once norm norm' p b (Changing c) (Err e) (Err f) m d distinct h k = h.1 ∙ sym k.1
  step_once norm norm' p b (Changing c) (Ok (Some a)) out' m d distinct h k = absurd h
  step_once norm norm' p b (Changing c) (Ok None) (Ok (Some a)) m d distinct h k = absurd k
  step_once norm norm' p b (Changing c) (Err e) (Ok (Some a)) m d distinct h k = absurd k
  step_once norm norm' p b (Ask q) out out' m d distinct h k = asked_same norm q out m h ∙ sym (asked_same norm' q out' d k)
    where
      asked_same : (norm : NormAnswers) (q : _) (out : Outcome E) (m : List (Record E)) → Step o norm p b (Ask q) out m → m ≡ b
      asked_same norm q (Ok None) m h = absurd h
      asked_same norm q (Err e) m h = h.2
      asked_same norm q (Ok (Some a)) m h = h.2

  run_once : (norm norm' : NormAnswers) (p : ℕ) (b : List (Record E)) (cs : List (Call E)) (outs outs' : List (Outcome E)) (m d : List (Record E)) → Good o p b → Run o norm p b cs outs m → Run o norm' p b cs outs' d → m ≡ d
  run_once norm norm' p b [] [] [] m d good h k = sym h ∙ k
  run_once norm norm' p b [] [] (out ∷ outs) m d good h k = absurd k
  run_once norm norm' p b [] (out ∷ outs) outs' m d good h k = absurd h
  run_once norm norm' p b (c ∷ cs) [] outs' m d good h k = absurd h
  run_once norm norm' p b (c ∷ cs) (out ∷ outs) [] m d good h k = absurd k
  run_once norm norm' p b (c ∷ cs) (out ∷ outs) (out' ∷ outs') m d good h k =
      let same = step_once norm norm' p b c out out' h.0 k.0 good.distinct h.1 k.1 in
      run_once norm norm' p h.0 cs outs outs' m d (step_good o norm p b c out h.0 h.1 good) h.2 (subst (λ t. Run o norm' p t cs outs' d) (sym same) k.2)

  pub history_determined : (norm : NormAnswers) (p : ℕ) (cs : List (Call E)) (outs : List (Outcome E)) (b : List (Record E)) → History o norm p cs outs b → Determined o p cs b
  history_determined norm p cs outs b h norm' outs' d k = run_once norm' norm p [] cs outs' outs d b (blank_good o norm p) k.1 h.1
