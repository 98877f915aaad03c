-- The rules that a record keeps by itself.
use Rattle.std.specs.Prelude.{◌≡◌, ℕ, ◌≤◌, ◌⊎◌}
use Rattle.effect.specs.Laws.{Operations}
use Rattle.reduction.specs.Factor.{Sized}
use Rattle.loads.specs.declared.kinds.Kind.{Kind}
use Rattle.loads.specs.declared.kinds.Kind.TheVariants.{Permanent, LongTerm, ShortTerm, Special}
use Rattle.loads.specs.declared.records.Load.{Load}
use Rattle.loads.specs.declared.records.Record.{Record}

abbrev pub NumberIn : ℕ → Type 0
NumberIn n = (1 ≤ n) × (n ≤ 9999)

-- the lower factor is for permanent loads only
abbrev pub LowerIn : Kind → ℕ → ℕ → Type 0
LowerIn Permanent upper lower = (80 ≤ lower) × (lower ≤ upper)
LowerIn LongTerm upper lower = lower ≡ 0
LowerIn ShortTerm upper lower = lower ≡ 0
LowerIn Special upper lower = lower ≡ 0

abbrev pub FactorsIn : Kind → ℕ → ℕ → Type 0
FactorsIn k upper lower = (80 ≤ upper) × (upper ≤ 200) × LowerIn k upper lower

-- a load that is reduced, with area and storeys in the ranges of the reduction, and one that is not
abbrev pub Reduced : ℕ → ℕ → ℕ → Type 0
Reduced class area storeys = (1 ≤ class) × (class ≤ 2) × Sized area storeys

abbrev pub Plain : ℕ → ℕ → ℕ → Type 0
Plain class area storeys = (class ≡ 0) × (area ≡ 0) × (storeys ≡ 0)

-- only a short-term load is reduced
abbrev pub ReductionIn : Kind → ℕ → ℕ → ℕ → Type 0
ReductionIn Permanent class area storeys = Plain class area storeys
ReductionIn LongTerm class area storeys = Plain class area storeys
ReductionIn ShortTerm class area storeys = Plain class area storeys ⊎ Reduced class area storeys
ReductionIn Special class area storeys = Plain class area storeys

-- a group other than 0 is for long-term and short-term loads only
abbrev pub GroupIn : Kind → ℕ → Type 0
GroupIn Permanent g = g ≡ 0
GroupIn LongTerm g = g ≤ 99
GroupIn ShortTerm g = g ≤ 99
GroupIn Special g = g ≡ 0

abbrev pub ReachIn : {E : Type 0} → Operations E → Load E → Type 0
ReachIn o l = o.reach l.effect ≤ 1000000000

-- a record that keeps every rule of its own
pub record Ruled {E : Type 0} (o : Operations E) (r : Record E) : Type 0 where
  pub number : NumberIn r.number
  pub factors : FactorsIn r.kind r.load.upper r.load.lower
  pub reduction : ReductionIn r.kind r.load.class r.load.area r.load.storeys
  pub group : GroupIn r.kind r.load.group
  pub reach : ReachIn o r.load
