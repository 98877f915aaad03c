-- The smallest of several causes, and a letter that stands for one kind.
use Rattle.std.proofs.Common.{◌≡◌, ℕ, ◌+◌, ◌<◌, ◌≤◌, cond, eqb, List, Option, sym, refl, ap, ◌∙◌, subst, ⊎_elim, arith}
use Rattle.std.proofs.lemmas.Bool.{cases_lt}
use Rattle.effect.specs.Laws.{Operations}
use Rattle.refusals.specs.Numbers.{number_of}
use Rattle.sheet.specs.Checks.{LoadCause}
use Rattle.sheet.specs.Ledger.{Due, Clear, Against, GroupRule}
use Rattle.loads.specs.Letters.{letter_of}
use Rattle.loads.specs.Rules.{NumberIn, FactorsIn, ReductionIn, ReachIn}
use Rattle.loads.specs.declared.kinds.Kind.{Kind}
use Rattle.loads.specs.declared.kinds.Kind.TheVariants.{Permanent, LongTerm, ShortTerm, Special}
use Rattle.sheet.specs.declared.changes.Entry.{Entry}
use Rattle.loads.specs.declared.records.Record.{Record}
use Rattle.refusals.specs.declared.Refusal.{Refusal}
use Rattle.refusals.specs.declared.Refusal.TheVariants.{RecordNumber, KindLetter, LoadFactor, Reduction, Group, Reach, NumberTaken, NumberMissing, SheetFull, NoSpecialLoad, Header, BodyLine, OutputTooLong, ColumnValue}

-- the kind of a letter
abbrev kind_at : ℕ → Kind
kind_at l = cond (eqb l 80) Permanent (cond (eqb l 76) LongTerm (cond (eqb l 84) ShortTerm Special))

kind_at_letter : (k : Kind) → kind_at (letter_of k) ≡ k
kind_at_letter Permanent = refl
kind_at_letter LongTerm = refl
kind_at_letter ShortTerm = refl
kind_at_letter Special = refl

pub same_kind : (l : ℕ) (j k : Kind) → letter_of j ≡ l → letter_of k ≡ l → j ≡ k
same_kind l j k p q = sym (kind_at_letter j) ∙ ap kind_at (p ∙ sym q) ∙ kind_at_letter k

-- a rule that holds of the kind of the letter is not broken
pub not_against : (P : Kind → Type 0) (l : ℕ) (k : Kind) → letter_of k ≡ l → P k → Against l P → ⊥
not_against P l k is holds broken = broken.2 (subst P (same_kind l k broken.0 is broken.1) holds)

-- a refusal is known by its number, from 1 to 14
abbrev refusal_at : ℕ → Refusal
refusal_at n = cond (eqb n 1) RecordNumber (cond (eqb n 2) KindLetter (cond (eqb n 3) LoadFactor (cond (eqb n 4) Reduction (cond (eqb n 5) Group (cond (eqb n 6) Reach (cond (eqb n 7) NumberTaken (cond (eqb n 8) NumberMissing (cond (eqb n 9) SheetFull (cond (eqb n 10) NoSpecialLoad (cond (eqb n 11) Header (cond (eqb n 12) BodyLine (cond (eqb n 13) OutputTooLong ColumnValue))))))))))))

refusal_at_number : (f : Refusal) → refusal_at (number_of f) ≡ f
refusal_at_number RecordNumber = refl
refusal_at_number KindLetter = refl
refusal_at_number LoadFactor = refl
refusal_at_number Reduction = refl
refusal_at_number Group = refl
refusal_at_number Reach = refl
refusal_at_number NumberTaken = refl
refusal_at_number NumberMissing = refl
refusal_at_number SheetFull = refl
refusal_at_number NoSpecialLoad = refl
refusal_at_number Header = refl
refusal_at_number BodyLine = refl
refusal_at_number OutputTooLong = refl
refusal_at_number ColumnValue = refl

pub same_refusal : (e f : Refusal) → number_of e ≡ number_of f → e ≡ f
same_refusal e f p = sym (refusal_at_number e) ∙ ap refusal_at p ∙ refusal_at_number f

number_bounds : (f : Refusal) → (1 ≤ number_of f) × (number_of f < 15)
number_bounds RecordNumber = (omega arith, omega arith)
number_bounds KindLetter = (omega arith, omega arith)
number_bounds LoadFactor = (omega arith, omega arith)
number_bounds Reduction = (omega arith, omega arith)
number_bounds Group = (omega arith, omega arith)
number_bounds Reach = (omega arith, omega arith)
number_bounds NumberTaken = (omega arith, omega arith)
number_bounds NumberMissing = (omega arith, omega arith)
number_bounds SheetFull = (omega arith, omega arith)
number_bounds NoSpecialLoad = (omega arith, omega arith)
number_bounds Header = (omega arith, omega arith)
number_bounds BodyLine = (omega arith, omega arith)
number_bounds OutputTooLong = (omega arith, omega arith)
number_bounds ColumnValue = (omega arith, omega arith)

-- no cause of a number below n holds; the causes are ruled out one by one, the smallest first
module _ (C : Refusal → Type 0) where
  abbrev pub Below : ℕ → Type 0
  Below n = (f : Refusal) → number_of f < n → C f → ⊥

  pub below_first : Below 1
  below_first f lt h = absurd (omega (arith, (number_bounds f).0))

  pub below_next : (e : Refusal) → (C e → ⊥) → Below (number_of e) → Below (number_of e + 1)
  below_next e not below f lt h =
      ⊎_elim (λ less. below f less h) (λ le. not (subst C (same_refusal f e (omega arith)) h)) (cases_lt (number_of f) (number_of e))

  clear_below : Below 15 → Clear C
  clear_below below f h = below f (number_bounds f).1 h

  -- the causes past 10 are of no call on a sheet
  pub clear_all : (C Header → ⊥) → (C BodyLine → ⊥) → (C OutputTooLong → ⊥) → (C ColumnValue → ⊥) → Below 11 → Clear C
  clear_all a b c d below = clear_below (below_next ColumnValue d (below_next OutputTooLong c (below_next BodyLine b (below_next Header a below))))

-- causes that are the same below n, and of which C has no other
pub due_like : (C D : Refusal → Type 0) (n : ℕ) → ((f : Refusal) → C f → number_of f < n) → ((f : Refusal) → number_of f < n → (C f → D f) × (D f → C f)) → (e : Refusal) → Due C e → Due D e
due_like C D n low like e due =
    let lt = low e due.0 in
    ((like e lt).0 due.0, λ f less h. due.1 f less ((like f (omega arith)).1 h))

-- what is ruled out of a record that is handed in, check by check
module _ {E : Type 0} (o : Operations E) (own : Option ℕ) (x : Entry E) (b : List (Record E)) (k : Kind) (is : letter_of k ≡ x.letter) (number : NumberIn x.number) where
  abbrev Load-below : ℕ → Type 0
  Load-below m = Below (LoadCause o own x b) m

  pub to_factor : Load-below 3
  to_factor =
      below_next _ KindLetter (λ none. none k is)
      (below_next _ RecordNumber (λ out. out number) (below_first _))

  module _ (factors : FactorsIn k x.load.upper x.load.lower) where
    pub to_reduction : Load-below 4
    to_reduction = below_next _ LoadFactor (not_against _ x.letter k is factors) to_factor

    module _ (reduction : ReductionIn k x.load.class x.load.area x.load.storeys) where
      pub to_group : Load-below 5
      to_group = below_next _ Reduction (not_against _ x.letter k is reduction) to_reduction

      module _ (group : GroupRule own x.load.group b k) where
        pub to_reach : Load-below 6
        to_reach = below_next _ Group (not_against _ x.letter k is group) to_group

        pub load_clear : ReachIn o x.load → Clear (LoadCause o own x b)
        load_clear reach =
            clear_all _ (λ h. h) (λ h. h) (λ h. h) (λ h. h)
            (below_next _ NoSpecialLoad (λ h. h)
            (below_next _ SheetFull (λ h. h)
            (below_next _ NumberMissing (λ h. h)
            (below_next _ NumberTaken (λ h. h)
            (below_next _ Reach (λ far. far reach) to_reach)))))
