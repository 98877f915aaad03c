-- Design loads, and which records have the same.
use Rattle.std.specs.Prelude.{◌≡◌, ◌*◌, ◌↔◌, List, [], ◌∷◌, map}
use Rattle.std.specs.List.{AllByRecursion}
use Rattle.effect.specs.Laws.{Operations}
use Rattle.combination.specs.Choices.{SharesGroup}
use Rattle.effect.specs.Rearranging.{Rearranged}
use Rattle.combination.specs.Lists.{EachTwo}
use Rattle.combination.specs.Worst.{factor}
use Rattle.loads.specs.declared.kinds.Kind.{Kind}
use Rattle.loads.specs.declared.kinds.Kind.TheVariants.{Permanent, LongTerm, ShortTerm, Special}
use Rattle.loads.specs.declared.records.Record.{Record}

-- the design load of a long-term, short-term or special load is its effect times the upper factor times F;
-- a permanent load has two, by its upper and by its lower factor, times 10000
abbrev pub design_loads : {E : Type 0} → Operations E → Kind → Record E → List E
design_loads o Permanent r = o.times (r.load.upper * 10000) r.load.effect ∷ o.times (r.load.lower * 10000) r.load.effect ∷ []
design_loads o LongTerm r = o.times (r.load.upper * factor r) r.load.effect ∷ []
design_loads o ShortTerm r = o.times (r.load.upper * factor r) r.load.effect ∷ []
design_loads o Special r = o.times (r.load.upper * factor r) r.load.effect ∷ []

-- partners have equal kinds and equal design loads
pub record Partners {E : Type 0} (o : Operations E) (a b : Record E) : Type 0 where
  pub kinds : a.kind ≡ b.kind
  pub loads : design_loads o a.kind a ≡ design_loads o b.kind b

-- the records can be paired one to one as partners, two records sharing a group other than 0 exactly where their partners do
pub record SameDesignLoads {E : Type 0} (o : Operations E) (first second : List (Record E)) : Type 0 where
  pub pairs : List (Record E × Record E)
  pub firsts : Rearranged (map (λ x. x.0) pairs) first
  pub seconds : Rearranged (map (λ x. x.1) pairs) second
  pub partners : AllByRecursion (λ x. Partners o x.0 x.1) pairs
  pub groups : EachTwo (λ x y. SharesGroup x.0 y.0 ↔ SharesGroup x.1 y.1) pairs
