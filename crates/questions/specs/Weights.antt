-- The weights of records, where sums of them are owed.
use Rattle.std.specs.Prelude.{◌≡◌, ℕ, Some, None, Option}
use Rattle.effect.specs.Laws.{Operations}
use Rattle.loads.specs.Rules.{ReductionIn, Ruled}
use Rattle.loads.specs.declared.kinds.Kind.{Kind}
use Rattle.loads.specs.declared.kinds.Kind.TheVariants.{Permanent, LongTerm, ShortTerm, Special}
use Rattle.loads.specs.declared.records.Record.{Record}
use Rattle.combination.specs.Worst.{factor}
use Rattle.questions.specs.Items.{weight_of, Reduction, InRange}

-- a factor that the kind allows: only a short-term load is reduced
abbrev pub Allowed : Kind → ℕ → Type 0
Allowed Permanent f = f ≡ 10000
Allowed LongTerm f = f ≡ 10000
Allowed ShortTerm f = Unit {0}
Allowed Special f = f ≡ 10000

-- the reduction factor, or the record breaks its rule
abbrev pub Reduces : {V : Type 0} → Record V → Option ℕ → Type 0
Reduces r None = ReductionIn r.kind r.load.class r.load.area r.load.storeys → ⊥
Reduces r (Some f) = (f ≡ factor r) × Reduction r.kind (factor r)

-- the weight, or the record breaks a rule
abbrev pub Weighs : {V : Type 0} → Operations V → Record V → Option ℕ → Type 0
Weighs e r None = Ruled e r → ⊥
Weighs e r (Some w) = (w ≡ weight_of r) × InRange e r
