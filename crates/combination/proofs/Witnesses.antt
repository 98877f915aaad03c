-- Two lists of records have the same design loads.
use Rattle.std.proofs.Common.{◌≡◌, ℕ, ◌*◌, ◌<◌, ◌↔◌, [], ◌∷◌, pos, ◌*ℤ◌, sym, refl, ap, ◌∙◌, inl, inr, ⊎_elim, arith, lit<, lit≤}
use Rattle.std.proofs.lemmas.Bool.{cases_lt}
use Rattle.effect.specs.Models.{forces, of_force}
use Rattle.effect.specs.Rearranging.{keep, swap, both}
use Rattle.effect.specs.declared.newtons.N.{N}
use Rattle.effect.proofs.Rearranging.{unchanged}
use Rattle.loads.specs.declared.records.Record.{Record}
use Rattle.norm.specs.declared.roles.Role.TheVariants.{Leading}
use Rattle.reduction.specs.Factor.{Smallest, Sized, factor_of}
use Rattle.reduction.proofs.Factors.{factor_1, factor_exists, factor_only}
use Rattle.reduction.proofs.Least.{square_mono}
use Rattle.combination.specs.Examples.{permanent_load, short_term_load, first_way, second_way, SameLoads}
use Rattle.combination.specs.Loads.{SameDesignLoads}
use Rattle.combination.specs.Sound.{Sound}
use Rattle.combination.specs.declared.picks.Pick.TheVariants.{Upper, Out, As}
use Rattle.combination.specs.declared.questions.Question.TheVariants.{Basic}
use Rattle.combination.proofs.Deciding.{test_to}

-- 0.4 + 0.6 / √(36 / 9) is 0.7
sized : Sized 3600 1
sized = record { area_low = lit≤ tt; area_high = lit≤ tt; storeys_low = lit≤ tt; storeys_high = lit≤ tt }

third : Smallest 32400000000 3600 3000
third = record {
  enough = lit≤ tt;
  least = λ j h. ⊎_elim (λ (less : j < 3000). absurd (omega (arith, square_mono j 2999 3600 (omega arith)))) (λ k. k) (cases_lt j 3000);
}

seven_tenths : factor_of 1 3600 1 ≡ 7000
seven_tenths =
    let range = inr (lit≤ tt, lit≤ tt, sized) in
    factor_only 1 3600 1 (factor_of 1 3600 1) 7000 range (factor_exists 1 3600 1 range) (factor_1 3600 1 7000 (3000, refl, third))

not_reduced : factor_of 0 0 0 ≡ 10000
not_reduced = (factor_exists 0 0 0 (inl refl)).whole_0 refl

first_sound : Sound forces first_way
first_sound = record {
  few = lit≤ tt;
  ruled = (
    record { number = (lit≤ tt, lit≤ tt); factors = (lit≤ tt, lit≤ tt, (lit≤ tt, lit≤ tt)); reduction = (refl, refl, refl); group = refl; reach = lit≤ tt },
    (
      record { number = (lit≤ tt, lit≤ tt); factors = (lit≤ tt, lit≤ tt, refl); reduction = inr (lit≤ tt, lit≤ tt, sized); group = lit≤ tt; reach = lit≤ tt },
      (record { number = (lit≤ tt, lit≤ tt); factors = (lit≤ tt, lit≤ tt, refl); reduction = inl (refl, refl, refl); group = lit≤ tt; reach = lit≤ tt }, tt),
    ),
  );
}

second_sound : Sound forces second_way
second_sound = record {
  few = lit≤ tt;
  ruled = (
    record { number = (lit≤ tt, lit≤ tt); factors = (lit≤ tt, lit≤ tt, refl); reduction = inl (refl, refl, refl); group = lit≤ tt; reach = lit≤ tt },
    (
      record { number = (lit≤ tt, lit≤ tt); factors = (lit≤ tt, lit≤ tt, (lit≤ tt, lit≤ tt)); reduction = (refl, refl, refl); group = refl; reach = lit≤ tt },
      (record { number = (lit≤ tt, lit≤ tt); factors = (lit≤ tt, lit≤ tt, refl); reduction = inl (refl, refl, refl); group = lit≤ tt; reach = lit≤ tt }, tt),
    ),
  );
}

other_number : (a b : Record N) → (a.number ≡ b.number → ⊥) → a ≡ b → ⊥
other_number a b n e = n (ap (λ r. r.number) e)

-- a record of group 0 shares its group with none
neither : (b d : ℕ) → ((0 < 0) × (◌≡◌ {A = ℕ} 0 b)) ↔ ((0 < 0) × (◌≡◌ {A = ℕ} 0 d))
neither b d = (λ h. absurd (omega (arith, h.0)), λ h. absurd (omega (arith, h.0)))

same_design_loads : SameDesignLoads forces first_way second_way
same_design_loads = record {
  pairs =
      (permanent_load 1 (pos 500) 110 88, permanent_load 5 (pos 550) 100 80)
      ∷ (short_term_load 2 3 (pos 300) 120 1 3600, short_term_load 6 7 (pos 210) 120 0 0)
      ∷ (short_term_load 3 3 (pos 200) 100 0 0, short_term_load 4 7 (pos 100) 200 0 0)
      ∷ [];
  firsts = unchanged first_way;
  seconds = both (keep swap) swap;
  partners = (
    record { kinds = refl; loads = refl },
    (
      record {
        kinds = refl;
        loads = ap (λ f. of_force (pos (120 * f) *ℤ pos 300) ∷ []) seven_tenths ∙ sym (ap (λ f. of_force (pos (120 * f) *ℤ pos 210) ∷ []) not_reduced);
      },
      (record { kinds = refl; loads = ap (λ f. of_force (pos (100 * f) *ℤ pos 200) ∷ []) not_reduced ∙ sym (ap (λ f. of_force (pos (200 * f) *ℤ pos 100) ∷ []) not_reduced) }, tt),
    ),
  );
  groups = (
    (neither 3 7, (neither 3 7, tt)),
    (((λ _. (lit< tt, refl), λ _. (lit< tt, refl)), tt), (tt, tt)),
  );
}

pub same_loads : SameLoads first_way second_way
same_loads = record {
  first_sound = first_sound;
  second_sound = second_sound;
  different = (
    (other_number _ _ (λ e. omega arith), (other_number _ _ (λ e. omega arith), (other_number _ _ (λ e. omega arith), tt))),
    (
      (other_number _ _ (λ e. omega arith), (other_number _ _ (λ e. omega arith), (other_number _ _ (λ e. omega arith), tt))),
      ((other_number _ _ (λ e. omega arith), (other_number _ _ (λ e. omega arith), (other_number _ _ (λ e. omega arith), tt))), tt),
    ),
  );
  same = same_design_loads;
  admissible = test_to Basic first_way (Upper ∷ As Leading ∷ Out ∷ []) refl (inl refl, (inr (inl refl), (inl refl, tt))) tt;
  one_of_a_group = λ h. h.groups.1.0.0 tt tt (lit< tt, refl);
}
