-- The numbers of the records are distinct, so that the places and the changes determine the records.
-- Assumes nothing.
use Rattle.std.proofs.Common.{◌≡◌, ℕ, List, [], ◌∷◌, ◌++◌, sym, refl, ap, ◌∙◌, subst}
use Rattle.std.proofs.ByRecursion.{All-push, All-append}
use Rattle.loads.specs.declared.records.Record.{Record}
use Rattle.sheet.specs.Ledger.{Missing, Replaced, Changed, record_of}
use Rattle.sheet.specs.declared.changes.Change.{Change}
use Rattle.sheet.specs.declared.changes.Change.TheVariants.{Enter, Alter, Strike}
use Rattle.sheet.proofs.Causes.{same_kind}
use Rattle.sheet.proofs.Lists.{not_none, all_front, all_here, all_back, all_swap}

module _ {E : Type 0} where
  abbrev pub Distinct : List (Record E) → Type 0
  Distinct [] = Unit {0}
  Distinct (r ∷ b) = Missing r.number b × Distinct b

  -- what is not refuted of a missing number holds
  pub missing_stable : (n : ℕ) (b : List (Record E)) → ((Missing n b → ⊥) → ⊥) → Missing n b
  missing_stable n [] h = tt
  missing_stable n (r ∷ b) h = (λ is. h (λ all. all.0 is), missing_stable n b (λ not. h (λ all. not all.1)))

  pub distinct_push : (b : List (Record E)) (r : Record E) → Missing r.number b → Distinct b → Distinct (b ++ r ∷ [])
  distinct_push [] r missing d = (tt, tt)
  distinct_push (x ∷ b) r missing d = (All-push (λ y. y.number ≡ x.number → ⊥) b r d.0 (λ same. missing.0 (sym same)), distinct_push b r missing.1 d.1)

  pub distinct_swap : (front : List (Record E)) (old new : Record E) (back : List (Record E)) → new.number ≡ old.number → Distinct (front ++ old ∷ back) → Distinct (front ++ new ∷ back)
  distinct_swap [] old new back same d = (subst (λ n. Missing n back) (sym same) d.0, d.1)
  distinct_swap (x ∷ front) old new back same d = (
    all_swap (λ y. y.number ≡ x.number → ⊥) front old new back (λ is. all_here (λ y. y.number ≡ x.number → ⊥) front old back d.0 (sym same ∙ is)) d.0,
    distinct_swap front old new back same d.1,
  )

  pub distinct_drop : (front : List (Record E)) (old : Record E) (back : List (Record E)) → Distinct (front ++ old ∷ back) → Distinct (front ++ back)
  distinct_drop [] old back d = d.1
  distinct_drop (x ∷ front) old back d = (
    All-append (λ y. y.number ≡ x.number → ⊥) front back (all_front (λ y. y.number ≡ x.number → ⊥) front old back d.0) (all_back (λ y. y.number ≡ x.number → ⊥) front old back d.0),
    distinct_drop front old back d.1,
  )

  tail : List (Record E) → List (Record E)
  tail [] = []
  tail (x ∷ b) = b

  head : Record E → List (Record E) → Record E
  head z [] = z
  head z (x ∷ b) = x

  -- a record with the number n stands at one place only
  one_place : (n : ℕ) (f : List (Record E)) (r : Record E) (k g : List (Record E)) (s : Record E) (l : List (Record E)) → f ++ r ∷ k ≡ g ++ s ∷ l → r.number ≡ n → s.number ≡ n → Distinct (f ++ r ∷ k) → (f ≡ g) × (k ≡ l)
  unfolding tail head
  one_place n [] r k [] s l same p q d = (refl, ap tail same)
  one_place n [] r k (y ∷ g) s l same p q d = absurd (not_none (λ x. x.number ≡ r.number) g s l (q ∙ sym p) (subst (λ t. Missing r.number t) (ap tail same) d.0))
  one_place n (x ∷ f) r k [] s l same p q d = absurd (not_none (λ y. y.number ≡ x.number) f r k (p ∙ sym q ∙ sym (ap (λ t. (head s t).number) same)) d.0)
  one_place n (x ∷ f) r k (y ∷ g) s l same p q d =
      let rest = one_place n f r k g s l (ap tail same) p q d.1 in
      (ap (λ t. head s t ∷ f) same ∙ ap (λ t. y ∷ t) rest.0, rest.1)

  replaced_once : (b : List (Record E)) (n : ℕ) (new c d : List (Record E)) → Distinct b → Replaced b n new c → Replaced b n new d → c ≡ d
  replaced_once b n new c d distinct h k =
      let one = one_place n h.0 h.1 h.2 k.0 k.1 k.2 (sym h.3 ∙ k.3) h.4 k.4 (subst Distinct h.3 distinct) in
      h.5 ∙ ap (λ f. f ++ (new ++ h.2)) one.0 ∙ ap (λ t. k.0 ++ (new ++ t)) one.1 ∙ sym k.5

  pub changed_once : (b : List (Record E)) (c : Change E) (m d : List (Record E)) → Distinct b → Changed b c m → Changed b c d → m ≡ d
  changed_once b (Enter x) m d distinct h k = h.2 ∙ ap (λ j. b ++ record_of x j ∷ []) (same_kind x.letter h.0 k.0 h.1 k.1) ∙ sym k.2
  changed_once b (Alter x) m d distinct h k =
      replaced_once b x.number (record_of x k.0 ∷ []) m d distinct (subst (λ j. Replaced b x.number (record_of x j ∷ []) m) (same_kind x.letter h.0 k.0 h.1 k.1) h.2) k.2
  changed_once b (Strike n) m d distinct h k = replaced_once b n [] m d distinct h k

  -- the others have other numbers
  pub missing_beside : (front : List (Record E)) (old : Record E) (back : List (Record E)) (n : ℕ) → old.number ≡ n → Distinct (front ++ old ∷ back) → Missing n front × Missing n back
  missing_beside [] old back n e d = (tt, subst (λ m. Missing m back) e d.0)
  missing_beside (x ∷ front) old back n e d =
      let rest = missing_beside front old back n e d.1 in
      ((λ same. all_here (λ y. y.number ≡ x.number → ⊥) front old back d.0 (e ∙ sym same), rest.0), rest.1)
