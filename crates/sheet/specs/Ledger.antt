-- The ledger of a sheet, a list of records: why a change is refused, and what an accepted one leaves.
use Rattle.std.specs.Prelude.{◌≡◌, ℕ, ◌<◌, ◌≤◌, List, [], ◌∷◌, ◌++◌, length, Some, None, Ok, Err, Option, Result, ◌≢◌}
use Rattle.std.specs.List.{AllByRecursion}
use Rattle.effect.specs.Laws.{Operations}
use Rattle.refusals.specs.Numbers.{number_of}
use Rattle.refusals.specs.declared.Refusal.{Refusal}
use Rattle.refusals.specs.declared.Refusal.TheVariants.{RecordNumber, KindLetter, LoadFactor, Reduction, Group, Reach, NumberTaken, NumberMissing, SheetFull, NoSpecialLoad, Header, BodyLine, OutputTooLong, ColumnValue}
use Rattle.loads.specs.Letters.{letter_of}
use Rattle.loads.specs.Rules.{NumberIn, FactorsIn, ReductionIn, GroupIn, ReachIn}
use Rattle.loads.specs.declared.kinds.Kind.{Kind}
use Rattle.loads.specs.declared.records.Record.{Record}
use Rattle.sheet.specs.declared.changes.Change.{Change}
use Rattle.sheet.specs.declared.changes.Entry.{Entry}
use Rattle.sheet.specs.declared.changes.Change.TheVariants.{Enter, Alter, Strike}

-- of the causes C, that of e holds and none of a smaller number
abbrev pub Due : (Refusal → Type 0) → Refusal → Type 0
Due C e = C e × ((f : Refusal) → number_of f < number_of e → C f → ⊥)

-- none of the causes C holds
abbrev pub Clear : (Refusal → Type 0) → Type 0
Clear C = (f : Refusal) → C f → ⊥

-- the letter l stands for a kind against the rule P
abbrev pub Against : ℕ → (Kind → Type 0) → Type 0
Against l P = (k : Kind) × (letter_of k ≡ l) × (P k → ⊥)

module _ {E : Type 0} where
  -- no record has the number n
  abbrev pub Missing : ℕ → List (Record E) → Type 0
  Missing n b = AllByRecursion (λ r. r.number ≢ n) b

  -- r is not the record that an alteration replaces
  abbrev pub Other : Option ℕ → Record E → Type 0
  Other None r = Unit {0}
  Other (Some n) r = r.number ≡ n → ⊥

  -- beside the record r, one of the kind k may have the group g
  abbrev pub Agrees : Kind → ℕ → Record E → Type 0
  Agrees k g r = (g ≢ 0) → r.load.group ≡ g → r.kind ≡ k

  -- a record of the kind k may have the group g, by itself and beside the other records
  abbrev pub GroupRule : Option ℕ → ℕ → List (Record E) → Kind → Type 0
  GroupRule own g b k = GroupIn k g × AllByRecursion (λ r. Other own r → Agrees k g r) b

  -- the record number that a change names
  abbrev pub named : Change E → ℕ
  named (Enter x) = x.number
  named (Alter x) = x.number
  named (Strike n) = n

  -- P of what is handed in; an alteration leaves its own record out of the group rule
  abbrev pub Handed : Change E → (Option ℕ → Entry E → Type 0) → Type 0
  Handed (Enter x) P = P None x
  Handed (Alter x) P = P (Some x.number) x
  Handed (Strike n) P = ⊥

  -- P of the record number of an entry
  abbrev pub Entered : Change E → (ℕ → Type 0) → Type 0
  Entered (Enter x) P = P x.number
  Entered (Alter x) P = ⊥
  Entered (Strike n) P = ⊥

  -- P of the record number that an alteration or a striking-off looks for
  abbrev pub Sought : Change E → (ℕ → Type 0) → Type 0
  Sought (Enter x) P = ⊥
  Sought (Alter x) P = P x.number
  Sought (Strike n) P = P n

  -- the record of an entry, where its letter stands for the kind k
  abbrev pub record_of : Entry E → Kind → Record E
  record_of x k = record { number = x.number; kind = k; load = x.load }

  -- b has a record of the number n, and b' is b with these records in its place
  abbrev pub Replaced : List (Record E) → ℕ → List (Record E) → List (Record E) → Type 0
  Replaced b n new b' = (front : List (Record E)) × (old : Record E) × (back : List (Record E)) × (b ≡ front ++ old ∷ back) × (old.number ≡ n) × (b' ≡ front ++ (new ++ back))

  -- what an accepted change makes of the records b: an entry adds one at the end, an alteration replaces one, a striking-off removes one
  abbrev pub Changed : List (Record E) → Change E → List (Record E) → Type 0
  Changed b (Enter x) b' = (k : Kind) × (letter_of k ≡ x.letter) × (b' ≡ b ++ record_of x k ∷ [])
  Changed b (Alter x) b' = (k : Kind) × (letter_of k ≡ x.letter) × Replaced b x.number (record_of x k ∷ []) b'
  Changed b (Strike n) b' = Replaced b n [] b'

module _ {E : Type 0} (o : Operations E) where
  -- the cause of each refusal, where p places hold the records b
  abbrev pub Cause : ℕ → List (Record E) → Change E → Refusal → Type 0
  Cause p b c RecordNumber = NumberIn (named c) → ⊥
  Cause p b c KindLetter = Handed c (λ own x. (k : Kind) → letter_of k ≢ x.letter)
  Cause p b c LoadFactor = Handed c (λ own x. Against x.letter (λ k. FactorsIn k x.load.upper x.load.lower))
  Cause p b c Reduction = Handed c (λ own x. Against x.letter (λ k. ReductionIn k x.load.class x.load.area x.load.storeys))
  Cause p b c Group = Handed c (λ own x. Against x.letter (GroupRule own x.load.group b))
  Cause p b c Reach = Handed c (λ own x. ReachIn o x.load → ⊥)
  Cause p b c NumberTaken = Entered c (λ n. Missing n b → ⊥)
  Cause p b c NumberMissing = Sought c (λ n. Missing n b)
  Cause p b c SheetFull = Entered c (λ n. p ≤ length b)
  Cause p b c NoSpecialLoad = ⊥
  Cause p b c Header = ⊥
  Cause p b c BodyLine = ⊥
  Cause p b c OutputTooLong = ⊥
  Cause p b c ColumnValue = ⊥

  -- the change is refused with e: the smallest number whose cause holds
  abbrev pub Refuses : ℕ → List (Record E) → Change E → Refusal → Type 0
  Refuses p b c e = Due (Cause p b c) e

  abbrev pub Accepted : ℕ → List (Record E) → Change E → Type 0
  Accepted p b c = Clear (Cause p b c)

  -- a change from the records b to b', or its refusal, which leaves them
  abbrev pub Performs : ℕ → List (Record E) → Change E → Result (Unit {0}) Refusal → List (Record E) → Type 0
  Performs p b c (Ok u) b' = Accepted p b c × Changed b c b'
  Performs p b c (Err e) b' = Refuses p b c e × (b' ≡ b)
