-- The row after one record more is best.
use Rattle.std.proofs.Common.{ℕ, ◌-◌, ◌≤◌, Bool, true, List, set, Some, Option, sym, subst, ⊎_elim, arith}
use Rattle.effect.specs.Laws.{Operations, Laws}
use Rattle.questions.specs.PartChoices.{leads, seconds, Light}
use Rattle.questions.specs.BestParts.{Opens, Tops, Sound, BestFrom, added, Better}
use Rattle.questions.specs.Rows.{RowBest, Stepped}
use Rattle.questions.specs.declared.choice.PartChoice.{PartChoice}
use Rattle.questions.specs.Items.{Item}
use Rattle.norm.specs.declared.roles.Role.{Role}
use Rattle.norm.specs.declared.roles.Role.TheVariants.{Leading, Second, Other}
use Rattle.questions.specs.declared.row.Row.{Row}
use Rattle.questions.proofs.Bests.{sound_kept, sound_added, best_step}

sound_better : {V : Type 0} {n : Operations V} (items : List (Item V)) (done : List Bool) (c l s : ℕ) {a b r : Option PartChoice} → Better n items a b r → Sound items done c l s a → Sound items done c l s b → Sound items done c l s r
sound_better {V} {n} items done c l s h sa sb =
    ⊎_elim
    (λ e. subst (Sound items done c l s) (sym e) sa)
    (λ e. subst (Sound items done c l s) (sym e) sb)
    h.either

module _ {V : Type 0} {n : Operations V} (laws : Laws n) {items : List (Item V)} (light : Light n items) {old done : List Bool} {j : ℕ} (opens : Opens items old done j) where
  -- What role r asks of the state (l, s) of a row: a best choice to add the record to, from which no less comes.
  Adds : ℕ → ℕ → ℕ → Option PartChoice → Type 0
  Adds c l s o = (r : Role) → 1 ≤ c → leads (Some r) ≤ l → seconds (Some r) ≤ s → (a : Option PartChoice) × BestFrom n items old (c - 1) (l - leads (Some r)) (s - seconds (Some r)) a × ((qs : List (Option Role)) → Tops n items (added j r a) qs → Tops n items o qs)

  -- the row of no records stays
  pub row_first : (row : Row) → RowBest n items done 0 row → RowBest n items (set done j true) 0 row
  row_first row best = record {
    neither = keep 0 0 row.neither best.neither;
    leading = keep 1 0 row.leading best.leading;
    second = keep 0 1 row.second best.second;
    both = keep 1 1 row.both best.both;
  }
    where
      keep : (l s : ℕ) (o : Option PartChoice) → BestFrom n items done 0 l s o → BestFrom n items (set done j true) 0 l s o
      keep l s o b = best_step laws light opens o o b (sound_kept laws light opens 0 l s o b.sound) (λ v t. t) (λ r h hl hs. absurd (omega arith))

  pub row_step : (c : ℕ) (kept before r : Row) → 1 ≤ c → RowBest n items done c kept → RowBest n items old (c - 1) before → Stepped n items kept before j r → RowBest n items (set done j true) c r
  unfolding Adds
  row_step c kept before r hc best prior st = record {
    neither = best_step laws light opens kept.neither r.neither best.neither
        (sound_better items after c 0 0 st.neither (keeps 0 0 kept.neither best.neither) (gives 0 0 Other (omega arith) (omega arith) before.neither prior.neither))
        st.neither.left
        neither_adds;
    leading = best_step laws light opens kept.leading r.leading best.leading
        (sound_better items after c 1 0 st.leading.2
        (sound_better items after c 1 0 st.leading.1 (keeps 1 0 kept.leading best.leading) (gives 1 0 Other (omega arith) (omega arith) before.leading prior.leading))
        (gives 1 0 Leading (omega arith) (omega arith) before.neither prior.neither))
        (λ v t. st.leading.2.left v (st.leading.1.left v t))
        leading_adds;
    second = best_step laws light opens kept.second r.second best.second
        (sound_better items after c 0 1 st.second.2
        (sound_better items after c 0 1 st.second.1 (keeps 0 1 kept.second best.second) (gives 0 1 Other (omega arith) (omega arith) before.second prior.second))
        (gives 0 1 Second (omega arith) (omega arith) before.neither prior.neither))
        (λ v t. st.second.2.left v (st.second.1.left v t))
        second_adds;
    both = best_step laws light opens kept.both r.both best.both
        (sound_better items after c 1 1 st.both.4
        (sound_better items after c 1 1 st.both.3
        (sound_better items after c 1 1 st.both.2 (keeps 1 1 kept.both best.both) (gives 1 1 Other (omega arith) (omega arith) before.both prior.both))
        (gives 1 1 Leading (omega arith) (omega arith) before.second prior.second))
        (gives 1 1 Second (omega arith) (omega arith) before.leading prior.leading))
        (λ v t. st.both.4.left v (st.both.3.left v (st.both.2.left v t)))
        both_adds;
  }
    where
      after : List Bool
      after = set done j true

      keeps : (l s : ℕ) (o : Option PartChoice) → BestFrom n items done c l s o → Sound items (set done j true) c l s o
      keeps l s o b = sound_kept laws light opens c l s o b.sound

      gives : (l s : ℕ) (p : Role) → leads (Some p) ≤ l → seconds (Some p) ≤ s → (o : Option PartChoice) → BestFrom n items old (c - 1) (l - leads (Some p)) (s - seconds (Some p)) o → Sound items (set done j true) c l s (added j p o)
      gives l s p hl hs o b = sound_added laws light opens p hc hl hs o b.sound

      neither_adds : Adds c 0 0 r.neither
      neither_adds Leading h hl hs = absurd (omega arith)
      neither_adds Second h hl hs = absurd (omega arith)
      neither_adds Other h hl hs = (before.neither, prior.neither, st.neither.right)

      leading_adds : Adds c 1 0 r.leading
      leading_adds Leading h hl hs = (before.neither, prior.neither, st.leading.2.right)
      leading_adds Second h hl hs = absurd (omega arith)
      leading_adds Other h hl hs = (before.leading, prior.leading, λ v u. st.leading.2.left v (st.leading.1.right v u))

      second_adds : Adds c 0 1 r.second
      second_adds Leading h hl hs = absurd (omega arith)
      second_adds Second h hl hs = (before.neither, prior.neither, st.second.2.right)
      second_adds Other h hl hs = (before.second, prior.second, λ v u. st.second.2.left v (st.second.1.right v u))

      both_adds : Adds c 1 1 r.both
      both_adds Leading h hl hs = (before.second, prior.second, λ v u. st.both.4.left v (st.both.3.right v u))
      both_adds Second h hl hs = (before.leading, prior.leading, st.both.4.right)
      both_adds Other h hl hs = (before.both, prior.both, λ v u. st.both.4.left v (st.both.3.left v (st.both.2.right v u)))
