-- Which records are done while the group of record i is carried.
use Rattle.std.proofs.Common.{◌≡◌, ℕ, ◌+◌, ◌<◌, ◌≤◌, Bool, true, false, ◌≢◌, ◌⊎◌, List, length, get_or, set, Decides, sym, ap, ◌∙◌, subst, inl, inr, ⊎_elim, arith, length-set, get_or-set_other, get_or-set_same}
use Rattle.std.proofs.lemmas.Bool.{cases_eq, cases_Bool, both_ways}
use Rattle.questions.specs.PartChoices.{group_at, Marked}
use Rattle.questions.specs.BestParts.{Opens}
use Rattle.questions.specs.Tables.{Kin, Fellow, Closed, Carried}
use Rattle.questions.specs.Items.{Item}

-- the test for a fellow: the groups are one, other than 0
pub fellow_by_group : {V : Type 0} (items : List (Item V)) (wanted : List Bool) (i j x y : ℕ) → group_at items i ≡ x → group_at items j ≡ y → (i ≡ j → ⊥) → Marked wanted j → (b : Bool) → Decides b ((x ≡ 0 → ⊥) × (x ≡ y)) → Decides b (Fellow items wanted i j)
fellow_by_group items wanted i j x y ei ej ne w b test = (
  λ t. let s = test.0 t in inr ((ej ∙ sym s.1 ∙ sym ei, λ z. s.0 (sym ei ∙ z)), w),
  λ f. test.1 (⊎_elim
      (λ (e : j ≡ i). absurd (ne (sym e)))
      (λ (g : Kin items i j × Marked wanted j). (λ z. g.0.1 (ei ∙ z), sym ei ∙ sym g.0.0 ∙ ej))
      f),
)

-- of the group of i, the records before j are done
pub record Carrying {V : Type 0} (items : List (Item V)) (wanted : List Bool) (i : ℕ) (before after : List Bool) (j : ℕ) : Type 0 where
  pub size : length after ≡ 32
  pub wider : (k : ℕ) → Marked before k → Marked after k
  pub covered : (k : ℕ) → k < j → Fellow items wanted i k → Marked after k
  pub only : (k : ℕ) → Marked after k → Marked before k ⊎ ((k < j) × Fellow items wanted i k)

module _ {V : Type 0} (items : List (Item V)) (wanted : List Bool) (i : ℕ) (before : List Bool) where
  pub carrying_none : length before ≡ 32 → Carrying items wanted i before before 0
  carrying_none size = record { size = size; wider = λ k d. d; covered = λ k h f. absurd (omega arith); only = λ k d. inl d }

  pub carrying_skip : {after : List Bool} (j : ℕ) → (Fellow items wanted i j → ⊥) → Carrying items wanted i before after j → Carrying items wanted i before after (j + 1)
  carrying_skip {after} j stranger h = record { size = h.size; wider = h.wider; covered = covered; only = only }
    where
      covered : (k : ℕ) → k < j + 1 → Fellow items wanted i k → Marked after k
      covered k l f = ⊎_elim
          (λ (e : k ≡ j). absurd (stranger (subst (Fellow items wanted i) e f)))
          (λ (ne : k ≢ j). h.covered k (omega arith) f)
          (cases_eq k j)

      only : (k : ℕ) → Marked after k → Marked before k ⊎ ((k < j + 1) × Fellow items wanted i k)
      only k d = ⊎_elim inl (λ (w : (k < j) × Fellow items wanted i k). inr (omega (arith, w.0), w.1)) (h.only k d)

  pub carrying_more : {after : List Bool} (j : ℕ) → j < 32 → Fellow items wanted i j → Carrying items wanted i before after j → Carrying items wanted i before (set after j true) (j + 1)
  carrying_more {after} j room fellow h = record { size = length-set after j true ∙ h.size; wider = λ k d. mark k (h.wider k d); covered = covered; only = only }
    where
      at_j : Marked (set after j true) j
      at_j = get_or-set_same after j true false (omega (arith, h.size))

      mark : (k : ℕ) → Marked after k → Marked (set after j true) k
      mark k d = ⊎_elim
          (λ (e : k ≡ j). subst (Marked (set after j true)) (sym e) at_j)
          (λ (ne : k ≢ j). get_or-set_other after j k true false ne ∙ d)
          (cases_eq k j)

      covered : (k : ℕ) → k < j + 1 → Fellow items wanted i k → Marked (set after j true) k
      covered k l f = ⊎_elim
          (λ (e : k ≡ j). subst (Marked (set after j true)) (sym e) at_j)
          (λ (ne : k ≢ j). mark k (h.covered k (omega arith) f))
          (cases_eq k j)

      only : (k : ℕ) → Marked (set after j true) k → Marked before k ⊎ ((k < j + 1) × Fellow items wanted i k)
      only k d = ⊎_elim
          (λ (e : k ≡ j). inr (omega arith, subst (Fellow items wanted i) (sym e) fellow))
          (λ (ne : k ≢ j). ⊎_elim inl (λ (w : (k < j) × Fellow items wanted i k). inr (omega (arith, w.0), w.1)) (h.only k (sym (get_or-set_other after j k true false ne) ∙ d)))
          (cases_eq k j)

  pub carrying_all : {after : List Bool} (j : ℕ) → length items ≤ j → Carrying items wanted i before after j → Carried items wanted i before after
  carrying_all j end h = record {
    wider = h.wider;
    covered = λ k l f. h.covered k (omega arith) f;
    only = λ k d. ⊎_elim inl (λ (w : (k < j) × Fellow items wanted i k). inr w.1) (h.only k d);
  }

  module _ (here : i < length items) (asked : Marked wanted i) (fresh : get_or before i false ≡ false) (closed : Closed items wanted before) where
    -- no record of the group was done before
    fresh_fellow : (k : ℕ) → Fellow items wanted i k → Marked before k → ⊥
    fresh_fellow k f d = ⊎_elim
        (λ (e : k ≡ i). both_ways (get_or before i false) fresh (subst (Marked before) e d))
        (λ (g : Kin items i k × Marked wanted k). g.0.1 (closed k i here asked d (both_ways (get_or before i false) fresh) g.0.0))
        f

    pub fellow_wanted : (k : ℕ) → Fellow items wanted i k → Marked wanted k
    fellow_wanted k f = ⊎_elim (λ (e : k ≡ i). subst (Marked wanted) (sym e) asked) (λ (g : Kin items i k × Marked wanted k). g.1) f

    -- two records of the group
    two_fellows : (k j : ℕ) → k ≢ j → Fellow items wanted i k → Fellow items wanted i j → Kin items j k
    two_fellows k j ne f h = ⊎_elim
        (λ (e : k ≡ i). ⊎_elim
        (λ (e' : j ≡ i). absurd (ne (e ∙ sym e')))
        (λ (w : Kin items i j × Marked wanted j). (ap (group_at items) e ∙ sym w.0.0, λ z. w.0.1 (sym w.0.0 ∙ z)))
        h)
        (λ (v : Kin items i k × Marked wanted k). ⊎_elim
        (λ (e' : j ≡ i). let same : group_at items j ≡ group_at items i = ap (group_at items) e' in (v.0.0 ∙ sym same, λ z. v.0.1 (sym same ∙ z)))
        (λ (w : Kin items i j × Marked wanted j). (v.0.0 ∙ sym w.0.0, λ z. w.0.1 (sym w.0.0 ∙ z)))
        h)
        f

    pub carrying_opens : {after : List Bool} (j : ℕ) → j < length items → length items ≤ 32 → Fellow items wanted i j → Carrying items wanted i before after j → Opens items before after j
    carrying_opens {after} j hj few fellow h = record {
      here = hj;
      room = omega (arith, h.size);
      free = ⊎_elim
          (λ (t : get_or after j false ≡ true). absurd (⊎_elim (fresh_fellow j fellow) (λ (w : (j < j) × Fellow items wanted i j). omega (arith, w.0)) (h.only j t)))
          (λ e. e)
          (cases_Bool (get_or after j false));
      wider = h.wider;
      fellows = λ k d. ⊎_elim inl (λ (w : (k < j) × Fellow items wanted i k). inr (let ne : k ≢ j = omega (arith, w.0) in two_fellows k j ne w.1 fellow)) (h.only k d);
      strangers = λ k d e. closed k j hj (fellow_wanted j fellow) d (fresh_fellow j fellow) e;
    }

    pub carried_closed : {after : List Bool} → Carried items wanted i before after → Closed items wanted after
    carried_closed {after} h k m hm wm dk nm e = ⊎_elim
        (λ (d : Marked before k). closed k m hm wm d (λ dm. nm (h.wider m dm)) e)
        (λ (f : Fellow items wanted i k). ⊎_elim
        (λ z. z)
        (λ (nz : group_at items m ≡ 0 → ⊥). absurd (nm (h.covered m hm (joins nz f))))
        (cases_eq (group_at items m) 0))
        (h.only k dk)
      where
        joins : (group_at items m ≡ 0 → ⊥) → Fellow items wanted i k → Fellow items wanted i m
        joins nz f = inr (
          ⊎_elim
              (λ (same : k ≡ i). let g : group_at items k ≡ group_at items i = ap (group_at items) same in (sym e ∙ g, λ z. nz (sym e ∙ g ∙ z)))
              (λ (g : Kin items i k × Marked wanted k). (sym e ∙ g.0.0, g.0.1))
              f,
          wm,
        )

    pub carried_wanted : {after : List Bool} → ((k : ℕ) → Marked before k → Marked wanted k) → Carried items wanted i before after → (k : ℕ) → Marked after k → Marked wanted k
    carried_wanted only h k d = ⊎_elim (only k) (fellow_wanted k) (h.only k d)

-- nothing is done, so no group is done in part
pub closed_blank : {V : Type 0} (items : List (Item V)) (wanted done : List Bool) → ((k : ℕ) → Marked done k → ⊥) → Closed items wanted done
closed_blank items wanted done none k m hm wm dk nm e = absurd (none k dk)
