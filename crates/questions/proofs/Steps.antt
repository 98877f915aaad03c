-- Adding one record to the choices from `old`, and taking it away again.
use Rattle.std.proofs.Common.{◌≡◌, ℕ, ◌-◌, ◌<◌, ◌≤◌, Bool, true, false, ◌≢◌, ◌⊎◌, List, length, get_or, set, sym, refl, ap, ◌∙◌, subst, inl, inr, ⊎_elim, arith, length-set, get_or-set_other, get_or-set_same, Some, None, Option}
use Rattle.std.proofs.lemmas.Bool.{cases_eq, both_ways}
use Rattle.questions.specs.PartChoices.{Valid, From, Marked, Apart, taken, leads, seconds, group_at}
use Rattle.questions.specs.BestParts.{Opens}
use Rattle.questions.specs.Items.{Item}
use Rattle.norm.specs.declared.roles.Role.{Role}
use Rattle.questions.proofs.Sums.{count_set}

pub out_or_taken : (p : Option Role) → (p ≡ None) ⊎ (taken p ≡ 1)
out_or_taken None = inl refl
out_or_taken (Some r) = inr refl

-- a pick that stands after a write at j stood there before, or was written
pub taken_after : (ps : List (Option Role)) (j k : ℕ) (r : Option Role) → taken (get_or (set ps j r) k None) ≡ 1 → k ≢ j → taken (get_or ps k None) ≡ 1
taken_after ps j k r t ne = subst (λ (p : Option Role). taken p ≡ 1) (get_or-set_other ps j k r None ne) t

-- a record that was struck out is not taken
pub struck : (ps : List (Option Role)) (j : ℕ) → j < length ps → taken (get_or (set ps j None) j None) ≡ 1 → ⊥
struck ps j h t = let e : taken (get_or (set ps j None) j None) ≡ 0 = ap taken (get_or-set_same ps j None None h) in omega arith

module _ {V : Type 0} {items : List (Item V)} {old done : List Bool} {j : ℕ} (opens : Opens items old done j) where
  -- in a choice from `old`, record j is out
  pub out_in_old : {c l s : ℕ} {ps : List (Option Role)} → From items old c l s ps → get_or ps j None ≡ None
  out_in_old {c} {l} {s} {ps} f =
      ⊎_elim (λ e. e) (λ t. absurd (both_ways (get_or done j false) opens.free (opens.wider j (f.within j t)))) (out_or_taken (get_or ps j None))

  pub done_after : (k : ℕ) → Marked done k → Marked (set done j true) k
  done_after k h = ⊎_elim
      (λ (e : k ≡ j). subst (λ (m : ℕ). Marked (set done j true) m) (sym e) (get_or-set_same done j true false opens.room))
      (λ ne. get_or-set_other done j k true false ne ∙ h)
      (cases_eq k j)

  -- a choice from `old`, with record j added in role r
  pub from_added : {c l s : ℕ} {ps : List (Option Role)} (r : Option Role) → taken r ≡ 1 → 1 ≤ c → leads r ≤ l → seconds r ≤ s → From items old (c - 1) (l - leads r) (s - seconds r) ps → From items (set done j true) c l s (set ps j r)
  from_added {c} {l} {s} {ps} r t hc hl hs f =
      record {
        valid = record {
          parallel = length-set ps j r ∙ v.parallel;
          number = omega (arith, count_set taken ps j r inside, ap taken out, v.number);
          first = omega (arith, count_set leads ps j r inside, ap leads out, v.first);
          next = omega (arith, count_set seconds ps j r inside, ap seconds out, v.next);
          apart = apart;
        };
        within = within;
      }
    where
      v : Valid items (c - 1) (l - leads r) (s - seconds r) ps
      v = f.valid

      inside : j < length ps
      inside = omega (arith, v.parallel, opens.here)

      out : get_or ps j None ≡ None
      out = out_in_old f

      within : (k : ℕ) → taken (get_or (set ps j r) k None) ≡ 1 → Marked (set done j true) k
      within k tk = ⊎_elim
          (λ (e : k ≡ j). subst (λ (m : ℕ). Marked (set done j true) m) (sym e) (get_or-set_same done j true false opens.room))
          (λ ne. done_after k (opens.wider k (f.within k (taken_after ps j k r tk ne))))
          (cases_eq k j)

      -- a taken record of the group of j, other than j
      lone : (k : ℕ) → k ≢ j → taken (get_or (set ps j r) k None) ≡ 1 → group_at items k ≡ group_at items j → group_at items j ≡ 0
      lone k ne tk e = opens.strangers k (f.within k (taken_after ps j k r tk ne)) e

      apart : Apart items (set ps j r)
      apart a b ne ta tb e = ⊎_elim
          (λ (ea : a ≡ j).
          let nb : b ≢ j = omega arith in
          let ga : group_at items a ≡ group_at items j = ap (group_at items) ea in
          ga ∙ lone b nb tb (sym e ∙ ga))
          (λ (na : a ≢ j). ⊎_elim
          (λ (eb : b ≡ j).
          let gb : group_at items b ≡ group_at items j = ap (group_at items) eb in
          e ∙ gb ∙ lone a na ta (e ∙ gb))
          (λ (nb : b ≢ j). v.apart a b ne (taken_after ps j a r ta na) (taken_after ps j b r tb nb) e)
          (cases_eq b j))
          (cases_eq a j)

  -- a choice without record j
  pub from_skipped : {c l s : ℕ} {qs : List (Option Role)} → From items (set done j true) c l s qs → get_or qs j None ≡ None → From items done c l s qs
  from_skipped {c} {l} {s} {qs} f out = record { valid = f.valid; within = within }
    where
      within : (k : ℕ) → taken (get_or qs k None) ≡ 1 → Marked done k
      within k tk = ⊎_elim
          (λ (e : k ≡ j). absurd (let z : taken (get_or qs k None) ≡ 0 = ap (λ (m : ℕ). taken (get_or qs m None)) e ∙ ap taken out in omega arith))
          (λ ne. sym (get_or-set_other done j k true false ne) ∙ f.within k tk)
          (cases_eq k j)

  -- a choice that has record j in role r, with that record struck out
  pub from_struck : {c l s : ℕ} {qs : List (Option Role)} (r : Option Role) → taken r ≡ 1 → From items (set done j true) c l s qs → get_or qs j None ≡ r → (1 ≤ c) × (leads r ≤ l) × (seconds r ≤ s) × From items old (c - 1) (l - leads r) (s - seconds r) (set qs j None)
  from_struck {c} {l} {s} {qs} r t f at = (
    omega (arith, count_set taken qs j None inside, ap taken at, v.number),
    omega (arith, count_set leads qs j None inside, ap leads at, v.first),
    omega (arith, count_set seconds qs j None inside, ap seconds at, v.next),
    record {
      valid = record {
        parallel = length-set qs j None ∙ v.parallel;
        number = omega (arith, count_set taken qs j None inside, ap taken at, v.number);
        first = omega (arith, count_set leads qs j None inside, ap leads at, v.first);
        next = omega (arith, count_set seconds qs j None inside, ap seconds at, v.next);
        apart = apart;
      };
      within = within;
    },
  )
    where
      v : Valid items c l s qs
      v = f.valid

      inside : j < length qs
      inside = omega (arith, v.parallel, opens.here)

      other : (k : ℕ) → taken (get_or (set qs j None) k None) ≡ 1 → k ≢ j
      other k tk e = struck qs j inside (subst (λ (m : ℕ). taken (get_or (set qs j None) m None) ≡ 1) e tk)

      still : (k : ℕ) → taken (get_or (set qs j None) k None) ≡ 1 → taken (get_or qs k None) ≡ 1
      still k tk = taken_after qs j k None tk (other k tk)

      apart : Apart items (set qs j None)
      apart a b ne ta tb e = v.apart a b ne (still a ta) (still b tb) e

      taken_j : taken (get_or qs j None) ≡ 1
      taken_j = ap taken at ∙ t

      within : (k : ℕ) → taken (get_or (set qs j None) k None) ≡ 1 → Marked old k
      within k tk =
          let before : Marked done k = sym (get_or-set_other done j k true false (other k tk)) ∙ f.within k (still k tk) in
          ⊎_elim (λ d. d)
          (λ (h : (group_at items k ≡ group_at items j) × (group_at items j ≡ 0 → ⊥)).
          absurd (h.1 (sym h.0 ∙ v.apart k j (other k tk) (still k tk) taken_j h.0)))
          (opens.fellows k before)
