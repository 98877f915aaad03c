-- The worked figures.
use Rattle.reduction.specs.Factor.{Factor}
use Rattle.figures.specs.Combinations.{Combinations}

-- Reduction factors. Areas are in hundredths of a square metre, factors in ten-thousandths.
pub record Factors : Type 0 where
  pub nine_square_metres : Factor 1 900 1 10000
  pub little_more : Factor 1 901 1 9997
  pub twenty : Factor 1 2000 1 8025
  pub four_storeys : Factor 1 3600 4 5500
  pub three_storeys : Factor 1 2000 3 6324
  pub hall : Factor 2 14400 1 7500

pub record Figures : Type 0 where
  pub factors : Factors
  pub combinations : Combinations
