-- The best part choice once one record more is done.
use Rattle.std.proofs.Common.{◌≡◌, ℕ, ◌+◌, ◌-◌, ◌≤◌, Bool, true, List, map, length, get_or, take, set, Some, None, Option, sym, refl, ap, ◌∙◌, subst, arith, length-set, set-set}
use lib.Seq.{take-set-lt, set-get_or}
use Rattle.effect.specs.Laws.{Operations, Laws, limit}
use Rattle.effect.specs.Laws.{AtMost}
use Rattle.questions.specs.PartChoices.{From, leads, seconds, worth, comes, reach_sum, Light, assigned, role_of, roles_of, chosen}
use Rattle.questions.specs.BestParts.{Opens, Under, Tops, Sound, BestFrom, added}
use Rattle.questions.specs.declared.choice.PartChoice.{PartChoice}
use Rattle.questions.specs.Items.{Item}
use Rattle.norm.specs.declared.roles.Role.{Role}
use Rattle.effect.proofs.Derived.{plus_at_most_left}
use Rattle.questions.proofs.Assigned.{roles_set}
use Rattle.questions.proofs.Sums.{reach_sum_set, reach_comes, comes_set, item_at}
use Rattle.questions.proofs.Steps.{out_in_old, done_after, from_added, from_skipped, from_struck}

module _ {V : Type 0} {n : Operations V} (laws : Laws n) {items : List (Item V)} (light : Light n items) {old done : List Bool} {j : ℕ} (opens : Opens items old done j) where
  it : Item V
  it = (item_at items j opens.here).0

  read : it ≡ get_or items j it
  unfolding it
  read = (item_at items j opens.here).1

  -- record j can be summed with each choice from `old`
  fits : {c l s : ℕ} {ps : List (Option Role)} (r : Option Role) → From items old c l s ps → n.reach (comes n items ps) + n.reach (worth n it r) ≤ limit
  fits {c} {l} {s} {ps} r f =
      let same : length ps ≡ length items = f.valid.parallel in
      let all : reach_sum n items (set ps j r) ≤ limit = light (set ps j r) (length-set ps j r ∙ same) in
      let split : reach_sum n items (set ps j r) ≡ reach_sum n items (set ps j None) + n.reach (worth n it r) = reach_sum_set laws items ps j r it same opens.here read in
      let back : set ps j None ≡ ps = ap (set ps j) (sym (out_in_old opens f)) ∙ set-get_or ps j None in
      let w : reach_sum n items (set ps j None) ≡ reach_sum n items ps = ap (reach_sum n items) back in
      let fit : reach_sum n items ps ≤ limit = omega arith in
      omega (arith, reach_comes laws items ps fit)

  -- what a choice comes to with record j in role r
  comes_added : {c l s : ℕ} {ps : List (Option Role)} (r : Option Role) → From items old c l s ps → comes n items (set ps j r) ≡ n.plus (comes n items ps) (worth n it r)
  comes_added {c} {l} {s} {ps} r f =
      let same : length ps ≡ length items = f.valid.parallel in
      let back : set ps j None ≡ ps = ap (set ps j) (sym (out_in_old opens f)) ∙ set-get_or ps j None in
      comes_set laws items ps j r it same opens.here read (light (set ps j r) (length-set ps j r ∙ same))
      ∙ ap (λ (qs : List (Option Role)). n.plus (comes n items qs) (worth n it r)) back

  pub sound_kept : (c l s : ℕ) (o : Option PartChoice) → Sound items done c l s o → Sound items (set done j true) c l s o
  sound_kept c l s None h = tt
  sound_kept c l s (Some p) h = record { valid = h.valid; within = λ k t. done_after opens k (h.within k t) }

  moved : (r : Role) (p : PartChoice) → take (length items) (map role_of (set p.assignments j (assigned r))) ≡ set (chosen items p) j (Some r)
  moved r p = ap (take (length items)) (roles_set p j r) ∙ take-set-lt (length items) (roles_of p) j (Some r) opens.here

  pub sound_added : {c l s : ℕ} (r : Role) → 1 ≤ c → leads (Some r) ≤ l → seconds (Some r) ≤ s → (o : Option PartChoice) → Sound items old (c - 1) (l - leads (Some r)) (s - seconds (Some r)) o → Sound items (set done j true) c l s (added j r o)
  sound_added r hc hl hs None h = tt
  sound_added {c} {l} {s} r hc hl hs (Some p) h = subst (λ (qs : List (Option Role)). From items (set done j true) c l s qs) (sym (moved r p)) (from_added opens (Some r) refl hc hl hs h)

  -- the order of two choices from `old` stays where record j is added to both in one role
  under_added : {c l s : ℕ} {qs ps : List (Option Role)} (r : Option Role) → From items old c l s qs → From items old c l s ps → Under n items qs ps → Under n items (set qs j r) (set ps j r)
  under_added {c} {l} {s} {qs} {ps} r f h u =
      subst (λ (v : V). AtMost n v (comes n items (set ps j r))) (sym (comes_added r f))
      (subst (AtMost n (n.plus (comes n items qs) (worth n it r))) (sym (comes_added r h))
      (plus_at_most_left laws (comes n items qs) (comes n items ps) (worth n it r) (fits r f) (fits r h) u))

  tops_added : (c l s : ℕ) {qs : List (Option Role)} (r : Role) (o : Option PartChoice) → Sound items old c l s o → From items old c l s qs → Tops n items o qs → Tops n items (added j r o) (set qs j (Some r))
  tops_added c l s r None h f t = t
  tops_added c l s {qs} r (Some p) h f t = subst (Under n items (set qs j (Some r))) (sym (moved r p)) (under_added (Some r) f h t)

  -- a choice with record j in role r is topped by the best choice without it, with record j added
  tops_struck : {c l s : ℕ} {qs : List (Option Role)} (r : Role) (o : Option PartChoice) → BestFrom n items old (c - 1) (l - leads (Some r)) (s - seconds (Some r)) o → From items (set done j true) c l s qs → get_or qs j None ≡ Some r → Tops n items (added j r o) qs
  tops_struck {c} {l} {s} {qs} r o best f at =
      let g : From items old (c - 1) (l - leads (Some r)) (s - seconds (Some r)) (set qs j None) = (from_struck opens (Some r) refl f at).3 in
      let again : set (set qs j None) j (Some r) ≡ qs = set-set qs j None (Some r) ∙ ap (set qs j) (sym at) ∙ set-get_or qs j None in
      subst (Tops n items (added j r o)) again (tops_added (c - 1) (l - leads (Some r)) (s - seconds (Some r)) r o best.sound g (best.most (set qs j None) g))

  -- o is best with record j done: it is no less than the best without it, and than the best that role r is added to, for each role
  pub best_step : {c l s : ℕ} (kept o : Option PartChoice) → BestFrom n items done c l s kept → Sound items (set done j true) c l s o → ((qs : List (Option Role)) → Tops n items kept qs → Tops n items o qs) → ((r : Role) → 1 ≤ c → leads (Some r) ≤ l → seconds (Some r) ≤ s → (a : Option PartChoice) × BestFrom n items old (c - 1) (l - leads (Some r)) (s - seconds (Some r)) a × ((qs : List (Option Role)) → Tops n items (added j r a) qs → Tops n items o qs)) → BestFrom n items (set done j true) c l s o
  best_step {c} {l} {s} kept o best sound keeps adds = record { sound = sound; most = λ qs f. go qs f (get_or qs j None) refl }
    where
      go : (qs : List (Option Role)) → From items (set done j true) c l s qs → (r : Option Role) → get_or qs j None ≡ r → Tops n items o qs
      go qs f None at = keeps qs (best.most qs (from_skipped opens f at))
      go qs f (Some r) at =
          let g = from_struck opens (Some r) refl f at in
          let a = adds r g.0 g.1 g.2 in
          a.2 qs (tops_struck r a.0 a.1 f at)
