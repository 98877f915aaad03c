-- The figures, by running the definitions.
-- Assumes nothing.
use Rattle.std.proofs.Common.{◌≡◌, ℕ, refl, subst, rules}
use Rattle.reduction.specs.Factor.{InRange, Factor, factor_of, first}
use Rattle.reduction.proofs.Factors.{factor_exists}
use Rattle.figures.specs.Figures.{Factors, Figures}
use Rattle.figures.proofs.Worsts.{combinations}

factor_is : (class area storeys f : ℕ) → InRange class area storeys → factor_of class area storeys ≡ f → Factor class area storeys f
factor_is class area storeys f h e =
    subst (λ (g : ℕ). Factor class area storeys g) e (factor_exists class area storeys h)

-- the factors, as numbers
pub nine_square_metres : factor_of 1 900 1 ≡ 10000
unfolding factor_of first
nine_square_metres = refl

pub little_more : factor_of 1 901 1 ≡ 9997
unfolding factor_of first
little_more = refl

pub twenty : factor_of 1 2000 1 ≡ 8025
unfolding factor_of first
twenty = refl

pub four_storeys : factor_of 1 3600 4 ≡ 5500
unfolding factor_of first
four_storeys = refl

pub three_storeys : factor_of 1 2000 3 ≡ 6324
unfolding factor_of first
three_storeys = refl

pub hall : factor_of 2 14400 1 ≡ 7500
unfolding factor_of first
hall = refl

factors : Factors
factors = record {
  nine_square_metres = factor_is 1 900 1 10000 (search rules) nine_square_metres;
  little_more = factor_is 1 901 1 9997 (search rules) little_more;
  twenty = factor_is 1 2000 1 8025 (search rules) twenty;
  four_storeys = factor_is 1 3600 4 5500 (search rules) four_storeys;
  three_storeys = factor_is 1 2000 3 6324 (search rules) three_storeys;
  hall = factor_is 2 14400 1 7500 (search rules) hall;
}

pub figures : Figures
figures = record { factors = factors; combinations = combinations }
