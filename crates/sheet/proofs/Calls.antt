-- From the checks of a call to the causes of the ledger.
use Rattle.std.proofs.Common.{◌≡◌, ℕ, ◌<◌, ◌≤◌, true, false, List, [], ◌∷◌, length, set, is_some, Some, None, Option, sym, subst, ⊎_elim, arith, MatchOption}
use Rattle.std.proofs.lemmas.Bool.{cases_lt}
use Rattle.std.specs.List.{HoldsAt, remove, AllByRecursion}
use Rattle.effect.specs.Laws.{Operations}
use Rattle.refusals.specs.Numbers.{number_of}
use Rattle.sheet.specs.Checks.{LoadCause}
use Rattle.sheet.specs.Ledger.{Due, Clear, Missing, Replaced, Cause}
use Rattle.sheet.specs.declared.changes.Entry.{Entry}
use Rattle.sheet.specs.declared.changes.Change.TheVariants.{Enter, Alter, Strike}
use Rattle.loads.specs.Rules.{NumberIn}
use Rattle.loads.specs.declared.records.Record.{Record}
use Rattle.refusals.specs.declared.Refusal.{Refusal}
use Rattle.refusals.specs.declared.Refusal.TheVariants.{RecordNumber, KindLetter, LoadFactor, Reduction, Group, Reach, NumberTaken, NumberMissing, SheetFull, NoSpecialLoad, Header, BodyLine, OutputTooLong, ColumnValue}
use Rattle.sheet.proofs.Causes.{Below, below_first, below_next, clear_all, due_like}
use Rattle.sheet.proofs.Lists.{Split, at_split, not_none}

-- what a search answered, by the test of its answer
pub found : {X : Type 0} (o : Option X) (P : Type 0) (Q : X → Type 0) → is_some o ≡ true → MatchOption o P Q → (x : X) × Q x
found None P Q e h = absurd (let z : ◌≡◌ {A = ℕ} 0 1 = cc in omega arith)
found (Some x) P Q e h = (x, h)

pub not_found : {X : Type 0} (o : Option X) (P : Type 0) (Q : X → Type 0) → is_some o ≡ false → MatchOption o P Q → P
not_found None P Q e h = h
not_found (Some x) P Q e h = absurd (let z : ◌≡◌ {A = ℕ} 0 1 = cc in omega arith)

pub not_le : {m n : ℕ} → (m ≤ n → ⊥) → n < m
not_le {m} {n} h = ⊎_elim (λ lt. lt) (λ le. absurd (h le)) (cases_lt n m)

module _ {E : Type 0} where
  -- the place of a record with the number n, in a slice of the records
  abbrev pub Place : ℕ → List (Record E) → ℕ → Type 0
  Place n s i = (i < length s) × HoldsAt (λ r. r.number ≡ n) s i

  place_split : (n : ℕ) (s b : List (Record E)) → s ≡ b → (i : ℕ) → Place n s i → Split (λ r. r.number ≡ n) b i
  place_split n s b same i at = subst (λ t. Split (λ r. r.number ≡ n) t i) same (at_split (λ r. r.number ≡ n) s i at.0 at.1)

  pub there : (n : ℕ) (s b : List (Record E)) → s ≡ b → (i : ℕ) → Place n s i → Missing n b → ⊥
  there n s b same i at missing =
      let at_i = place_split n s b same i at in
      not_none (λ r. r.number ≡ n) at_i.front at_i.here at_i.back at_i.holds (subst (AllByRecursion (λ r. r.number ≡ n → ⊥)) at_i.whole missing)

  pub altered : (n : ℕ) (s b : List (Record E)) → s ≡ b → (i : ℕ) → Place n s i → (new : Record E) → Replaced b n (new ∷ []) (set b i new)
  altered n s b same i at new = let at_i = place_split n s b same i at in (at_i.front, at_i.here, at_i.back, at_i.whole, at_i.holds, at_i.replaced new)

  pub struck : (n : ℕ) (s b : List (Record E)) → s ≡ b → (i : ℕ) → Place n s i → Replaced b n [] (remove b i)
  struck n s b same i at = let at_i = place_split n s b same i at in (at_i.front, at_i.here, at_i.back, at_i.whole, at_i.holds, at_i.taken)

module _ {E : Type 0} (o : Operations E) (x : Entry E) (b : List (Record E)) where
  load_low : (own : Option ℕ) (f : Refusal) → LoadCause o own x b f → number_of f < 7
  load_low own RecordNumber h = omega arith
  load_low own KindLetter h = omega arith
  load_low own LoadFactor h = omega arith
  load_low own Reduction h = omega arith
  load_low own Group h = omega arith
  load_low own Reach h = omega arith
  load_low own NumberTaken h = absurd h
  load_low own NumberMissing h = absurd h
  load_low own SheetFull h = absurd h
  load_low own NoSpecialLoad h = absurd h
  load_low own Header h = absurd h
  load_low own BodyLine h = absurd h
  load_low own OutputTooLong h = absurd h
  load_low own ColumnValue h = absurd h

  -- up to the reach, an entry and an alteration are refused for what is wrong with the record
  enter_like : (p : ℕ) (f : Refusal) → number_of f < 7 → (LoadCause o None x b f → Cause o p b (Enter x) f) × (Cause o p b (Enter x) f → LoadCause o None x b f)
  enter_like p RecordNumber lt = (λ h. h, λ h. h)
  enter_like p KindLetter lt = (λ h. h, λ h. h)
  enter_like p LoadFactor lt = (λ h. h, λ h. h)
  enter_like p Reduction lt = (λ h. h, λ h. h)
  enter_like p Group lt = (λ h. h, λ h. h)
  enter_like p Reach lt = (λ h. h, λ h. h)
  enter_like p NumberTaken lt = absurd (omega arith)
  enter_like p NumberMissing lt = absurd (omega arith)
  enter_like p SheetFull lt = absurd (omega arith)
  enter_like p NoSpecialLoad lt = absurd (omega arith)
  enter_like p Header lt = absurd (omega arith)
  enter_like p BodyLine lt = absurd (omega arith)
  enter_like p OutputTooLong lt = absurd (omega arith)
  enter_like p ColumnValue lt = absurd (omega arith)

  alter_like : (p : ℕ) (f : Refusal) → number_of f < 7 → (LoadCause o (Some x.number) x b f → Cause o p b (Alter x) f) × (Cause o p b (Alter x) f → LoadCause o (Some x.number) x b f)
  alter_like p RecordNumber lt = (λ h. h, λ h. h)
  alter_like p KindLetter lt = (λ h. h, λ h. h)
  alter_like p LoadFactor lt = (λ h. h, λ h. h)
  alter_like p Reduction lt = (λ h. h, λ h. h)
  alter_like p Group lt = (λ h. h, λ h. h)
  alter_like p Reach lt = (λ h. h, λ h. h)
  alter_like p NumberTaken lt = absurd (omega arith)
  alter_like p NumberMissing lt = absurd (omega arith)
  alter_like p SheetFull lt = absurd (omega arith)
  alter_like p NoSpecialLoad lt = absurd (omega arith)
  alter_like p Header lt = absurd (omega arith)
  alter_like p BodyLine lt = absurd (omega arith)
  alter_like p OutputTooLong lt = absurd (omega arith)
  alter_like p ColumnValue lt = absurd (omega arith)

  module _ (s : List (Record E)) (same : s ≡ b) where
    pub enter_due : (p : ℕ) (e : Refusal) → Due (LoadCause o None x s) e → Due (Cause o p b (Enter x)) e
    enter_due p e due = due_like (LoadCause o None x b) (Cause o p b (Enter x)) 7 (load_low None) (enter_like p) e (subst (λ t. Due (LoadCause o None x t) e) same due)

    pub alter_due : (p : ℕ) (e : Refusal) → Due (LoadCause o (Some x.number) x s) e → Due (Cause o p b (Alter x)) e
    alter_due p e due = due_like (LoadCause o (Some x.number) x b) (Cause o p b (Alter x)) 7 (load_low (Some x.number)) (alter_like p) e (subst (λ t. Due (LoadCause o (Some x.number) x t) e) same due)

    pub enter_sound : (p : ℕ) → Clear (LoadCause o None x s) → Below (Cause o p b (Enter x)) 7
    enter_sound p clear f lt h = clear f (subst (λ t. LoadCause o None x t f) (sym same) ((enter_like p f lt).1 h))

    pub alter_sound : (p : ℕ) → Clear (LoadCause o (Some x.number) x s) → Below (Cause o p b (Alter x)) 8
    alter_sound p clear =
        below_next (Cause o p b (Alter x)) NumberTaken (λ h. h)
        (λ f lt h. clear f (subst (λ t. LoadCause o (Some x.number) x t f) (sym same) ((alter_like p f lt).1 h)))

    pub enter_free : (p : ℕ) → Clear (LoadCause o None x s) → Missing x.number b → Below (Cause o p b (Enter x)) 9
    enter_free p clear missing =
        below_next (Cause o p b (Enter x)) NumberMissing (λ h. h)
        (below_next (Cause o p b (Enter x)) NumberTaken (λ taken. taken missing) (enter_sound p clear))

    pub enter_clear : (p : ℕ) → Clear (LoadCause o None x s) → Missing x.number b → length b < p → Clear (Cause o p b (Enter x))
    enter_clear p clear missing room =
        clear_all (Cause o p b (Enter x)) (λ h. h) (λ h. h) (λ h. h) (λ h. h)
        (below_next (Cause o p b (Enter x)) NoSpecialLoad (λ h. h)
        (below_next (Cause o p b (Enter x)) SheetFull (λ full. omega arith) (enter_free p clear missing)))

    pub alter_clear : (p : ℕ) → Clear (LoadCause o (Some x.number) x s) → (Missing x.number b → ⊥) → Clear (Cause o p b (Alter x))
    alter_clear p clear listed =
        clear_all (Cause o p b (Alter x)) (λ h. h) (λ h. h) (λ h. h) (λ h. h)
        (below_next (Cause o p b (Alter x)) NoSpecialLoad (λ h. h)
        (below_next (Cause o p b (Alter x)) SheetFull (λ h. h)
        (below_next (Cause o p b (Alter x)) NumberMissing listed (alter_sound p clear))))

module _ {E : Type 0} (o : Operations E) (p n : ℕ) (b : List (Record E)) (number : NumberIn n) where
  pub strike_sound : Below (Cause o p b (Strike n)) 8
  strike_sound =
      below_next (Cause o p b (Strike n)) NumberTaken (λ h. h)
      (below_next (Cause o p b (Strike n)) Reach (λ h. h)
      (below_next (Cause o p b (Strike n)) Group (λ h. h)
      (below_next (Cause o p b (Strike n)) Reduction (λ h. h)
      (below_next (Cause o p b (Strike n)) LoadFactor (λ h. h)
      (below_next (Cause o p b (Strike n)) KindLetter (λ h. h)
      (below_next (Cause o p b (Strike n)) RecordNumber (λ out. out number) (below_first (Cause o p b (Strike n)))))))))

  pub strike_clear : (Missing n b → ⊥) → Clear (Cause o p b (Strike n))
  strike_clear listed =
      clear_all (Cause o p b (Strike n)) (λ h. h) (λ h. h) (λ h. h) (λ h. h)
      (below_next (Cause o p b (Strike n)) NoSpecialLoad (λ h. h)
      (below_next (Cause o p b (Strike n)) SheetFull (λ h. h)
      (below_next (Cause o p b (Strike n)) NumberMissing listed strike_sound)))
