-- The figures of combinations, each by a test of all choices of its list.
-- Assumes nothing.
use Rattle.std.proofs.Common.{[], ◌∷◌, refl, inl, inr}
use Rattle.effect.specs.Models.{forces, moments}
use Rattle.norm.specs.Tables.{sp20, sp20_special, snip85, snip85_special}
use Rattle.norm.specs.declared.roles.Role.TheVariants.{Leading}
use Rattle.reduction.specs.Factor.{factor_of}
use Rattle.combination.specs.declared.picks.Pick.TheVariants.{Upper, Lower, Out, As, Taken}
use Rattle.combination.specs.declared.questions.Question.TheVariants.{Basic, WithSpecial}
use Rattle.combination.proofs.Deciding.{worst_by_test}
use Rattle.figures.specs.Combinations.{Combinations, long_and_short, relieving, uplift, three_kinds, one_group}

pub combinations : Combinations
unfolding factor_of
combinations = record {
  larger_alone = (Out ∷ As Leading ∷ [], worst_by_test forces snip85 Basic long_and_short (Out ∷ As Leading ∷ []) _ refl (inl refl, (inr (inl refl), tt)) tt refl tt);
  together = refl;
  lower_factor = (
    (Lower ∷ [], worst_by_test forces sp20 Basic relieving (Lower ∷ []) _ refl (inr (inl refl), tt) tt refl tt),
    (Lower ∷ [], worst_by_test forces snip85 Basic relieving (Lower ∷ []) _ refl (inr (inl refl), tt) tt refl tt),
  );
  blank = (([], worst_by_test forces sp20 Basic [] [] _ refl tt tt refl tt), ([], worst_by_test forces snip85 Basic [] [] _ refl tt tt refl tt));
  left_out = (
    (Out ∷ [], worst_by_test forces sp20 Basic uplift (Out ∷ []) _ refl (inl refl, tt) tt refl tt),
    (Out ∷ [], worst_by_test forces snip85 Basic uplift (Out ∷ []) _ refl (inl refl, tt) tt refl tt),
  );
  with_special = (
    (Upper ∷ Taken ∷ As Leading ∷ [], worst_by_test forces sp20_special WithSpecial three_kinds (Upper ∷ Taken ∷ As Leading ∷ []) _ refl (inl refl, (inr (inl refl), (inr (inl refl), tt))) tt refl tt),
    (Upper ∷ Taken ∷ As Leading ∷ [], worst_by_test forces snip85_special WithSpecial three_kinds (Upper ∷ Taken ∷ As Leading ∷ []) _ refl (inl refl, (inr (inl refl), (inr (inl refl), tt))) tt refl tt),
  );
  by_moment = (
    (Out ∷ As Leading ∷ [], worst_by_test moments sp20 Basic one_group (Out ∷ As Leading ∷ []) _ refl (inl refl, (inr (inl refl), tt)) tt refl tt),
    (Out ∷ As Leading ∷ [], worst_by_test moments snip85 Basic one_group (Out ∷ As Leading ∷ []) _ refl (inl refl, (inr (inl refl), tt)) tt refl tt),
  );
}
