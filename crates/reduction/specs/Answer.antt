-- What the reduction answers.
use Rattle.std.specs.Prelude.{◌≡◌, ℕ, Ok, Err, Result}
use Rattle.refusals.specs.declared.Refusal.{Refusal}
use Rattle.refusals.specs.declared.Refusal.TheVariants.{Reduction}
use Rattle.reduction.specs.Factor.{InRange, Factor, factor_of}
use Rattle.reduction.specs.Laws.{Laws}

-- what is known of a factor that is answered
pub record Given (class area storeys f : ℕ) : Type 0 where
  pub range : InRange class area storeys
  pub factor : Factor class area storeys f
  pub value : f ≡ factor_of class area storeys
  pub laws : Laws class area storeys f

-- the factor, or the refusal, which comes exactly outside the ranges
abbrev pub Answer : (class area storeys : ℕ) → Result ℕ Refusal → Type 0
Answer class area storeys (Ok f) = Given class area storeys f
Answer class area storeys (Err e) = (e ≡ Reduction) × (InRange class area storeys → ⊥)
