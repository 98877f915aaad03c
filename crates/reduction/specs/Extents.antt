-- What a floor load is taken over.
use Rattle.std.specs.Prelude.{◌≡◌, ℕ, Ok, Err, Result}
use Rattle.refusals.specs.declared.Refusal.{Refusal}
use Rattle.refusals.specs.declared.Refusal.TheVariants.{Reduction}
use Rattle.reduction.specs.Factor.{Sized}
use Rattle.reduction.specs.declared.extent.Extent.{Extent}

-- the area and the number of storeys together, or the refusal, exactly outside the ranges
abbrev pub Checked : (area storeys : ℕ) → Result Extent Refusal → Type 0
Checked area storeys (Ok x) = (x.area ≡ area) × (x.storeys ≡ storeys)
Checked area storeys (Err e) = (e ≡ Reduction) × (Sized area storeys → ⊥)
