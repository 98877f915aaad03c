-- What a record contributes in each role, and the bounds within which sums are owed.
use Rattle.std.specs.Prelude.{◌≡◌, ℕ, ◌*◌, ◌<◌, ◌≤◌, List, map, length, slice_index, slice_index_or}
use Rattle.std.specs.List.{AllByRecursion, AllByRecursion-prop}
use Rattle.std.specs.Coded.{Coded-set, coded_ℕ, le_prop}
use Rattle.effect.specs.Laws.{Operations}
use Rattle.loads.specs.declared.kinds.Kind.{Kind}
use Rattle.loads.specs.declared.kinds.Kind.TheVariants.{Permanent, LongTerm, ShortTerm, Special}
use Rattle.loads.specs.declared.records.Record.{Record}
use Rattle.combination.specs.Worst.{factor}
use Rattle.combination.specs.declared.percents.Percents.{Percents}

-- a record's group, with what the record contributes in each role
pub record Item (V : Type 0) : Type 0 where
  pub group : ℕ
  pub leading : V
  pub second : V
  pub other : V

-- the upper factor times the reduction factor
abbrev pub weight_of : {V : Type 0} → Record V → ℕ
weight_of r = r.load.upper * factor r

-- the contribution at a percentage
abbrev pub share : {V : Type 0} → Operations V → Record V → ℕ → V
share e r percent = e.times (r.load.upper * factor r * percent) r.load.effect

abbrev pub item_of : {V : Type 0} → Operations V → Percents → Record V → Item V
item_of e s r = record {
  group = r.load.group;
  leading = share e r s.leading;
  second = share e r s.second;
  other = share e r s.other;
}

abbrev pub items_of : {V : Type 0} → Operations V → Percents → List (Record V) → List (Item V)
items_of e s rs = map (item_of e s) rs

-- only a short-term load is reduced
abbrev pub Reduction : Kind → ℕ → Type 0
Reduction Permanent f = f ≡ 10000
Reduction LongTerm f = f ≡ 10000
Reduction ShortTerm f = f ≤ 10000
Reduction Special f = f ≡ 10000

-- what the sums ask of a record
pub record InRange {V : Type 0} (e : Operations V) (r : Record V) : Type 0 where
  pub reach : e.reach r.load.effect ≤ 1000000000
  pub upper : r.load.upper ≤ 200
  pub lower : r.load.lower ≤ 200
  pub reduction : Reduction r.kind (factor r)

pub record Kept {V : Type 0} (e : Operations V) (rs : List (Record V)) : Type 0 where
  pub few : length rs ≤ 32
  pub in_range : AllByRecursion (InRange e) rs

-- a fact of records has one proof at most, as a type's invariant has to have
Reduction-prop : (k : Kind) (f : ℕ) → IsProp (Reduction k f)
Reduction-prop Permanent f = Coded-set coded_ℕ f 10000
Reduction-prop LongTerm f = Coded-set coded_ℕ f 10000
Reduction-prop ShortTerm f = le_prop
Reduction-prop Special f = Coded-set coded_ℕ f 10000

pub InRange-prop : {V : Type 0} (e : Operations V) (r : Record V) → IsProp (InRange e r)
InRange-prop e r x y = λ i. record {
  reach = le_prop x.reach y.reach i;
  upper = le_prop x.upper y.upper i;
  lower = le_prop x.lower y.lower i;
  reduction = Reduction-prop r.kind (factor r) x.reduction y.reduction i;
}

pub Kept-prop : {V : Type 0} (e : Operations V) (rs : List (Record V)) → IsProp (Kept e rs)
Kept-prop e rs x y = λ i. record {
  few = le_prop x.few y.few i;
  in_range = AllByRecursion-prop (InRange e) (InRange-prop e) rs x.in_range y.in_range i;
}

-- the weights are those of the records
abbrev pub Weighed : {V : Type 0} → List ℕ → List (Record V) → Type 0
Weighed {V} ws rs = (k : ℕ) (r : Record V) → k < length rs → slice_index ws k ≡ weight_of (slice_index_or rs k r)

-- no percentage is over 100
pub record Whole (s : Percents) : Type 0 where
  pub leading : s.leading ≤ 100
  pub second : s.second ≤ 100
  pub other : s.other ≤ 100

pub Whole-prop : (s : Percents) → IsProp (Whole s)
Whole-prop s x y = λ i. record {
  leading = le_prop x.leading y.leading i;
  second = le_prop x.second y.second i;
  other = le_prop x.other y.other i;
}

-- every role at 100 percent
abbrev pub full : Percents
full = record { leading = 100; second = 100; other = 100 }
