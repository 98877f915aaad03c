-- The bounds that the rules put on a record, and those of a norm.
use Rattle.std.proofs.Common.{◌≡◌, ℕ, ◌≤◌, Bool, true, false, List, length, refl, inl, inr, ⊎_elim, arith, lit<, lit≤}
use Rattle.std.specs.List.{AllByRecursion}
use Rattle.std.proofs.ByRecursion.{All-weaker}
use Rattle.std.proofs.lemmas.Bool.{cases_eq}
use Rattle.effect.specs.Laws.{Operations}
use Rattle.norm.specs.Percentages.{Percentages, Ranged, inside}
use Rattle.norm.specs.declared.terms.Term.{Term}
use Rattle.reduction.specs.Factor.{InRange as Reducible, Sized, Reduced, Usable, rooms, halls, factor_of}
use Rattle.reduction.specs.declared.formula.Formula.{Formula}
use Rattle.reduction.proofs.Factors.{factor_exists, reduced_by}
use Rattle.loads.specs.Rules.{LowerIn, ReductionIn, Ruled}
use Rattle.combination.specs.Sound.{Sound}
use Rattle.combination.specs.Worst.{factor}
use Rattle.loads.specs.declared.kinds.Kind.{Kind}
use Rattle.loads.specs.declared.kinds.Kind.TheVariants.{Permanent, LongTerm, ShortTerm, Special}
use Rattle.loads.specs.declared.records.Record.{Record}

-- only a short-term load is reduced
abbrev pub Reduction : Kind → ℕ → Type 0
Reduction Permanent f = f ≡ 10000
Reduction LongTerm f = f ≡ 10000
Reduction ShortTerm f = f ≤ 10000
Reduction Special f = f ≡ 10000

pub record InRange {E : Type 0} (o : Operations E) (r : Record E) : Type 0 where
  pub reach : o.reach r.load.effect ≤ 1000000000
  pub upper : r.load.upper ≤ 200
  pub lower : r.load.lower ≤ 200
  pub reduction : Reduction r.kind (factor r)

pub record Kept {E : Type 0} (o : Operations E) (records : List (Record E)) : Type 0 where
  pub few : length records ≤ 32
  pub in_range : AllByRecursion (InRange o) records

-- no percentage is above 100
abbrev pub AtMostWhole : Percentages → Type 0
AtMostWhole norm = (t : Term) (i nl nt : ℕ) → norm t i nl nt ≤ 100

pub whole : (norm : Percentages) → Ranged norm → AtMostWhole norm
whole norm ranged t i nl nt = by (inside t i nl nt) refl
  where
    by : (b : Bool) → inside t i nl nt ≡ b → norm t i nl nt ≤ 100
    by true e = (ranged t i nl nt).0 e
    by false e = omega (arith, (ranged t i nl nt).1 e)

not_reduced : (class area storeys : ℕ) → class ≡ 0 → factor_of class area storeys ≡ 10000
not_reduced class area storeys e = (factor_exists class area storeys (inl e)).whole_0 e

usable_rooms : Usable rooms
usable_rooms = record { base_low = lit< tt; some = lit< tt; few = lit≤ tt; from_high = lit≤ tt }

usable_halls : Usable halls
usable_halls = record { base_low = lit< tt; some = lit< tt; few = lit≤ tt; from_high = lit≤ tt }

reduced_most : (formula : Formula) (area storeys f : ℕ) → Usable formula → Sized area storeys → Reduced formula area storeys f → f ≤ 10000
reduced_most formula area storeys f usable sized (k, e, s) = omega (arith, e, (reduced_by formula area storeys _ k usable sized refl s).1)

-- a factor is at most 1
factor_most : (class area storeys : ℕ) → 1 ≤ class → class ≤ 2 → Sized area storeys → factor_of class area storeys ≤ 10000
factor_most class area storeys low high sized =
    let f = factor_exists class area storeys (inr (low, high, sized)) in
    ⊎_elim
    (λ (e : class ≡ 1). reduced_most rooms area storeys _ usable_rooms sized (f.reduced_1 e))
    (λ (n : class ≡ 1 → ⊥). reduced_most halls area storeys _ usable_halls sized (f.reduced_2 (omega arith)))
    (cases_eq class 1)

-- the rules put class, area and storeys in the ranges of the reduction
pub range_of : (k : Kind) (class area storeys : ℕ) → ReductionIn k class area storeys → Reducible class area storeys
range_of Permanent class area storeys h = inl h.0
range_of LongTerm class area storeys h = inl h.0
range_of ShortTerm class area storeys (inl h) = inl h.0
range_of ShortTerm class area storeys (inr h) = inr h
range_of Special class area storeys h = inl h.0

reduction_of : (k : Kind) (class area storeys : ℕ) → ReductionIn k class area storeys → Reduction k (factor_of class area storeys)
reduction_of Permanent class area storeys h = not_reduced class area storeys h.0
reduction_of LongTerm class area storeys h = not_reduced class area storeys h.0
reduction_of ShortTerm class area storeys (inl h) = omega (arith, not_reduced class area storeys h.0)
reduction_of ShortTerm class area storeys (inr h) = factor_most class area storeys h.0 h.1 h.2
reduction_of Special class area storeys h = not_reduced class area storeys h.0

lower_most : (k : Kind) (upper lower : ℕ) → upper ≤ 200 → LowerIn k upper lower → lower ≤ 200
lower_most Permanent upper lower hu h = omega arith
lower_most LongTerm upper lower hu h = omega arith
lower_most ShortTerm upper lower hu h = omega arith
lower_most Special upper lower hu h = omega arith

pub in_range : {E : Type 0} (o : Operations E) (r : Record E) → Ruled o r → InRange o r
in_range o r h = record {
  reach = h.reach;
  upper = h.factors.1;
  lower = lower_most r.kind r.load.upper r.load.lower h.factors.1 h.factors.2;
  reduction = reduction_of r.kind r.load.class r.load.area r.load.storeys h.reduction;
}

pub kept : {E : Type 0} (o : Operations E) (records : List (Record E)) → Sound o records → Kept o records
kept o records h = record { few = h.few; in_range = All-weaker (Ruled o) (InRange o) (in_range o) records h.ruled }
