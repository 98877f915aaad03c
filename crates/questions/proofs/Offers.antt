-- The rows of a table while one record is offered to them, one row after the other.
use Rattle.std.proofs.Common.{◌≡◌, ℕ, ◌+◌, ◌-◌, ◌<◌, ◌≤◌, Bool, true, ◌≢◌, List, length, get_or, set, sym, refl, ◌∙◌, subst, ⊎_elim, arith, length-set, get_or-set_other, get_or-set_same}
use Rattle.std.proofs.lemmas.Bool.{cases_eq}
use Rattle.effect.specs.Laws.{Operations, Laws}
use Rattle.questions.specs.PartChoices.{Light}
use Rattle.questions.specs.BestParts.{Opens}
use Rattle.questions.specs.Rows.{RowBest, Stepped}
use Rattle.questions.specs.Items.{Item}
use Rattle.questions.specs.declared.row.Row.{Row}
use Rattle.questions.proofs.Rows.{row_first, row_step}

-- the rows below `count` have record j, and the others are as they were
pub record Offering {V : Type 0} (n : Operations V) (items : List (Item V)) (start rows : List Row) (done : List Bool) (j count : ℕ) : Type 0 where
  pub size : length rows ≡ 33
  pub below : (c : ℕ) (d : Row) → c < count → RowBest n items (set done j true) c (get_or rows c d)
  pub above : (c : ℕ) (d : Row) → count ≤ c → c ≤ 32 → get_or rows c d ≡ get_or start c d

module _ {V : Type 0} {n : Operations V} (laws : Laws n) {items : List (Item V)} (light : Light n items) {old done : List Bool} {j : ℕ} (opens : Opens items old done j) where
  pub offering_none : (m : ℕ) (rows : List Row) → length rows ≡ 33 → ((c : ℕ) (d : Row) → c ≤ m → RowBest n items done c (get_or rows c d)) → Offering n items rows rows done j 1
  offering_none m rows size best = record { size = size; below = below; above = λ c d h k. refl }
    where
      below : (c : ℕ) (d : Row) → c < 1 → RowBest n items (set done j true) c (get_or rows c d)
      below c d h =
          let e : 0 ≡ c = omega arith in
          subst (λ (k : ℕ). RowBest n items (set done j true) k (get_or rows k d)) e (row_first laws light opens (get_or rows 0 d) (best 0 d (omega arith)))

  pub offering_more : (m : ℕ) (start rows before : List Row) (count : ℕ) (d e r : Row) → 1 ≤ count → count ≤ m → m ≤ 32 → ((c : ℕ) (d : Row) → c ≤ m → RowBest n items done c (get_or start c d)) → ((c : ℕ) (d : Row) → c ≤ m → RowBest n items old c (get_or before c d)) → Offering n items start rows done j count → Stepped n items (get_or rows count d) (get_or before (count - 1) e) j r → Offering n items start (set rows count r) done j (count + 1)
  offering_more m start rows before count d e r lo hi top best best-before inv st = record { size = size; below = below; above = above }
    where
      size : length (set rows count r) ≡ 33
      size = length-set rows count r ∙ inv.size

      inside : count < length rows
      inside = omega (arith, inv.size)

      kept_best : RowBest n items done count (get_or rows count d)
      kept_best = subst (RowBest n items done count) (sym (inv.above count d (omega arith) (omega arith))) (best count d hi)

      stepped_best : RowBest n items (set done j true) count r
      stepped_best = row_step laws light opens count (get_or rows count d) (get_or before (count - 1) e) r lo kept_best (best-before (count - 1) e (omega arith)) st

      below : (c : ℕ) (f : Row) → c < count + 1 → RowBest n items (set done j true) c (get_or (set rows count r) c f)
      below c f h = ⊎_elim
          (λ (same : c ≡ count). subst (λ (k : ℕ). RowBest n items (set done j true) k (get_or (set rows count r) k f)) (sym same)
          (subst (RowBest n items (set done j true) count) (sym (get_or-set_same rows count r f inside)) stepped_best))
          (λ (ne : c ≢ count). subst (RowBest n items (set done j true) c) (sym (get_or-set_other rows count c r f ne)) (inv.below c f (omega arith)))
          (cases_eq c count)

      above : (c : ℕ) (f : Row) → count + 1 ≤ c → c ≤ 32 → get_or (set rows count r) c f ≡ get_or start c f
      above c f h k =
          let ne : c ≢ count = omega arith in
          get_or-set_other rows count c r f ne ∙ inv.above c f (omega arith) k
