-- What the rules of a record give of its weight.
use Rattle.std.proofs.Common.{◌≡◌, ℕ, suc, ◌+◌, ◌<◌, ◌≤◌, ◌≢◌, List, [], ◌∷◌, length, get_or, set, sym, ap, ◌∙◌, subst, ⊎_elim, arith, length-set, get_or-set_other, get_or-set_same}
use Rattle.std.proofs.lemmas.Bool.{cases_eq}
use Rattle.std.proofs.lemmas.List.{get_or_default}
use Rattle.std.specs.List.{AllByRecursion}
use Rattle.effect.specs.Laws.{Operations}
use Rattle.loads.specs.declared.records.Record.{Record}
use Rattle.questions.specs.Items.{weight_of, InRange, Kept, Weighed}

all_inside : {X : Type 0} (P : X → Type 0) (xs : List X) → ((i : ℕ) (d : X) → i < length xs → P (get_or xs i d)) → AllByRecursion P xs
all_inside P [] h = tt
all_inside P (x ∷ xs) h = (h 0 x (omega arith), all_inside P xs (λ i d l. h (suc i) d (omega arith)))

module _ {V : Type 0} (e : Operations V) (rs : List (Record V)) where
  -- the weights of the records before place k are found
  pub record Weighing (ws : List ℕ) (k : ℕ) : Type 0 where
    pub size : length ws ≡ 32
    pub weighed : (j : ℕ) (r : Record V) → j < k → get_or ws j 0 ≡ weight_of (get_or rs j r)
    pub in_range : (j : ℕ) (r : Record V) → j < k → InRange e (get_or rs j r)

  pub weighing_more : (ws : List ℕ) (k w : ℕ) (x : Record V) → length rs ≤ 32 → k < length rs → x ≡ get_or rs k x → w ≡ weight_of x → InRange e x → Weighing ws k → Weighing (set ws k w) (k + 1)
  weighing_more ws k w x few h is weight in_range m = record { size = length-set ws k w ∙ m.size; weighed = weighed; in_range = ranged }
    where
      read : (r : Record V) → x ≡ get_or rs k r
      read r = is ∙ get_or_default rs k x r h

      weighed : (j : ℕ) (r : Record V) → j < k + 1 → get_or (set ws k w) j 0 ≡ weight_of (get_or rs j r)
      weighed j r l = ⊎_elim
          (λ (same : j ≡ k). subst (λ (i : ℕ). get_or (set ws k w) i 0 ≡ weight_of (get_or rs i r)) (sym same) (get_or-set_same ws k w 0 (omega (arith, m.size)) ∙ weight ∙ ap weight_of (read r)))
          (λ (ne : j ≢ k). get_or-set_other ws k j w 0 ne ∙ m.weighed j r (omega arith))
          (cases_eq j k)

      ranged : (j : ℕ) (r : Record V) → j < k + 1 → InRange e (get_or rs j r)
      ranged j r l = ⊎_elim
          (λ (same : j ≡ k). subst (λ (i : ℕ). InRange e (get_or rs i r)) (sym same) (subst (InRange e) (read r) in_range))
          (λ (ne : j ≢ k). m.in_range j r (omega arith))
          (cases_eq j k)

  pub weighing_all : (ws : List ℕ) (k : ℕ) → length rs ≤ 32 → length rs ≤ k → Weighing ws k → Kept e rs × Weighed ws rs
  weighing_all ws k few h m = (record { few = few; in_range = all_inside (InRange e) rs (λ j r l. m.in_range j r (omega arith)) }, λ j r l. m.weighed j r (omega arith))
