-- The rules of a record can be decided, so that a record that no cause speaks against keeps them.
use Rattle.std.proofs.Common.{◌≡◌, ℕ, ◌<◌, ◌≤◌, ◌⊎◌, List, [], ◌∷◌, Some, None, Option, refl, ap, inl, inr, ⊎_elim, arith}
use Rattle.std.proofs.lemmas.Bool.{cases_lt}
use Rattle.std.specs.List.{AllByRecursion}
use Rattle.effect.specs.Laws.{Operations}
use Rattle.refusals.specs.declared.Refusal.TheVariants.{RecordNumber, LoadFactor, Reduction, Group, Reach}
use Rattle.loads.specs.Letters.{letter_of}
use Rattle.loads.specs.Rules.{NumberIn, LowerIn, FactorsIn, Plain, Reduced, ReductionIn, GroupIn, Ruled}
use Rattle.loads.specs.declared.kinds.Kind.{Kind}
use Rattle.loads.specs.declared.kinds.Kind.TheVariants.{Permanent, LongTerm, ShortTerm, Special}
use Rattle.loads.specs.declared.records.Record.{Record}
use Rattle.sheet.specs.Ledger.{Clear, Cause, Other, Agrees, record_of}
use Rattle.sheet.specs.declared.changes.Entry.{Entry}
use Rattle.sheet.specs.declared.changes.Change.TheVariants.{Enter, Alter}
use Rattle.sheet.proofs.Causes.{same_kind}

-- what is not refuted holds
abbrev Stable : Type 0 → Type 0
Stable P = ((P → ⊥) → ⊥) → P

le_stable : (a b : ℕ) → Stable (a ≤ b)
le_stable a b nn = ⊎_elim (λ lt. absurd (nn (λ h. omega arith))) (λ le. le) (cases_lt b a)

eq_stable : (a b : ℕ) → Stable (a ≡ b)
eq_stable a b nn =
    let up = le_stable a b (λ n. nn (λ e. n (omega arith))) in
    let down = le_stable b a (λ n. nn (λ e. n (omega arith))) in
    omega (arith, up, down)

number_stable : (n : ℕ) → Stable (NumberIn n)
number_stable n nn = (le_stable _ _ (λ m. nn (λ h. m h.0)), le_stable _ _ (λ m. nn (λ h. m h.1)))

lower_stable : (k : Kind) (u l : ℕ) → Stable (LowerIn k u l)
lower_stable Permanent u l nn = (le_stable _ _ (λ m. nn (λ h. m h.0)), le_stable _ _ (λ m. nn (λ h. m h.1)))
lower_stable LongTerm u l nn = eq_stable _ _ nn
lower_stable ShortTerm u l nn = eq_stable _ _ nn
lower_stable Special u l nn = eq_stable _ _ nn

factors_stable : (k : Kind) (u l : ℕ) → Stable (FactorsIn k u l)
factors_stable k u l nn = (le_stable _ _ (λ m. nn (λ h. m h.0)), le_stable _ _ (λ m. nn (λ h. m h.1)), lower_stable k u l (λ m. nn (λ h. m h.2)))

plain_stable : (c a s : ℕ) → Stable (Plain c a s)
plain_stable c a s nn = (eq_stable _ _ (λ m. nn (λ h. m h.0)), eq_stable _ _ (λ m. nn (λ h. m h.1)), eq_stable _ _ (λ m. nn (λ h. m h.2)))

reduced_stable : (c a s : ℕ) → Stable (Reduced c a s)
reduced_stable c a s nn = (
  le_stable _ _ (λ m. nn (λ h. m h.0)),
  le_stable _ _ (λ m. nn (λ h. m h.1)),
  record {
    area_low = le_stable _ _ (λ m. nn (λ h. m h.2.area_low));
    area_high = le_stable _ _ (λ m. nn (λ h. m h.2.area_high));
    storeys_low = le_stable _ _ (λ m. nn (λ h. m h.2.storeys_low));
    storeys_high = le_stable _ _ (λ m. nn (λ h. m h.2.storeys_high));
  },
)

either_stable : (c a s : ℕ) → Stable (Plain c a s ⊎ Reduced c a s)
either_stable c a s nn =
    ⊎_elim
    (λ (some : 0 < c). inr (reduced_stable c a s (λ not. nn (⊎_elim (λ plain. omega (arith, plain.0)) not))))
    (λ (none : c ≤ 0). inl (plain_stable c a s (λ not. nn (⊎_elim not (λ reduced. omega (arith, reduced.0))))))
    (cases_lt 0 c)

reduction_stable : (k : Kind) (c a s : ℕ) → Stable (ReductionIn k c a s)
reduction_stable Permanent c a s nn = plain_stable c a s nn
reduction_stable LongTerm c a s nn = plain_stable c a s nn
reduction_stable ShortTerm c a s nn = either_stable c a s nn
reduction_stable Special c a s nn = plain_stable c a s nn

group_stable : (k : Kind) (g : ℕ) → Stable (GroupIn k g)
group_stable Permanent g nn = eq_stable _ _ nn
group_stable LongTerm g nn = le_stable _ _ nn
group_stable ShortTerm g nn = le_stable _ _ nn
group_stable Special g nn = eq_stable _ _ nn

kind_stable : (j k : Kind) → Stable (j ≡ k)
kind_stable j k nn = same_kind (letter_of k) j k (eq_stable _ _ (λ n. nn (λ e. n (ap letter_of e)))) refl

all_stable : {X : Type 0} (P : X → Type 0) (xs : List X) → ((x : X) → Stable (P x)) → Stable (AllByRecursion P xs)
all_stable P [] each nn = tt
all_stable P (x ∷ xs) each nn = (each x (λ n. nn (λ h. n h.0)), all_stable P xs each (λ n. nn (λ h. n h.1)))

-- that the records of a group are of one kind, beside the others
agrees_stable : {E : Type 0} (own : Option ℕ) (k : Kind) (g : ℕ) (b : List (Record E)) → Stable (AllByRecursion (λ r. Other own r → Agrees k g r) b)
agrees_stable own k g b = all_stable _ b (λ r nn other some same. kind_stable r.kind k (λ n. nn (λ h. n (h other some same))))

module _ {E : Type 0} (o : Operations E) (p : ℕ) (b : List (Record E)) (x : Entry E) (k : Kind) (is : letter_of k ≡ x.letter) where
  -- an accepted record agrees with the others in its group
  pub enter_agrees : Clear (Cause o p b (Enter x)) → AllByRecursion (λ r. Agrees k x.load.group r) b
  enter_agrees clear = all_map b (agrees_stable None k x.load.group b (λ not. clear Group (k, is, λ h. not h.1)))
    where
      all_map : (b : List (Record E)) → AllByRecursion (λ r. Other None r → Agrees k x.load.group r) b → AllByRecursion (λ r. Agrees k x.load.group r) b
      all_map [] h = tt
      all_map (r ∷ b) h = (h.0 tt, all_map b h.1)

  pub alter_agrees : Clear (Cause o p b (Alter x)) → AllByRecursion (λ r. Other (Some x.number) r → Agrees k x.load.group r) b
  alter_agrees clear = agrees_stable (Some x.number) k x.load.group b (λ not. clear Group (k, is, λ h. not h.1))

  -- the record of an accepted entry keeps the rules
  pub enter_ruled : Clear (Cause o p b (Enter x)) → Ruled o (record_of x k)
  enter_ruled clear = record {
    number = number_stable x.number (clear RecordNumber);
    factors = factors_stable k x.load.upper x.load.lower (λ not. clear LoadFactor (k, is, not));
    reduction = reduction_stable k x.load.class x.load.area x.load.storeys (λ not. clear Reduction (k, is, not));
    group = group_stable k x.load.group (λ not. clear Group (k, is, λ h. not h.0));
    reach = le_stable _ _ (clear Reach);
  }

  -- and so does that of an accepted alteration
  pub alter_ruled : Clear (Cause o p b (Alter x)) → Ruled o (record_of x k)
  alter_ruled clear = record {
    number = number_stable x.number (clear RecordNumber);
    factors = factors_stable k x.load.upper x.load.lower (λ not. clear LoadFactor (k, is, not));
    reduction = reduction_stable k x.load.class x.load.area x.load.storeys (λ not. clear Reduction (k, is, not));
    group = group_stable k x.load.group (λ not. clear Group (k, is, λ h. not h.0));
    reach = le_stable _ _ (clear Reach);
  }
