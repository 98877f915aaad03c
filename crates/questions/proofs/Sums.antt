-- What a change of one pick does to a choice's counts, reach-sum and effect.
use Rattle.std.proofs.Common.{◌≡◌, ℕ, zero, suc, ◌+◌, ◌<◌, ◌≤◌, List, [], ◌∷◌, length, get_or, take, set, sym, refl, ap, ap₂, ◌∙◌, subst, arith, None, Option}
use Rattle.std.proofs.lemmas.List.{length-take-le, get_or-take}
use Rattle.effect.specs.Laws.{Operations, Laws, limit}
use Rattle.questions.specs.PartChoices.{count, worth, worths, comes, reach_sum, Light}
use Rattle.questions.specs.Items.{Item}
use Rattle.norm.specs.declared.roles.Role.{Role}
use Rattle.effect.specs.Sums.{total}
use Rattle.effect.proofs.Derived.{nil_plus}
use Rattle.effect.proofs.Totals.{reach_total, total_step}

pub count_set : (f : Option Role → ℕ) (ps : List (Option Role)) (j : ℕ) (r : Option Role) → j < length ps → count f (set ps j r) + f (get_or ps j None) ≡ count f ps + f r
count_set f [] j r h = absurd (omega arith)
count_set f (p ∷ ps) zero r h = omega arith
count_set f (p ∷ ps) (suc j) r h = let less : j < length ps = omega arith in omega (arith, count_set f ps j r less)

-- a place within a list has something
pub item_at : {X : Type 0} (xs : List X) (j : ℕ) → j < length xs → (x : X) × (x ≡ get_or xs j x)
item_at [] j h = absurd (omega arith)
item_at (x ∷ xs) zero h = (x, refl)
item_at (x ∷ xs) (suc j) h = let less : j < length xs = omega arith in item_at xs j less

module _ {V : Type 0} {n : Operations V} (laws : Laws n) where
  pub reach_sum_set : (items : List (Item V)) (ps : List (Option Role)) (j : ℕ) (r : Option Role) (it : Item V) → length ps ≡ length items → j < length items → it ≡ get_or items j it → reach_sum n items (set ps j r) ≡ reach_sum n items (set ps j None) + n.reach (worth n it r)
  reach_sum_set [] ps j r it e h read = absurd (omega arith)
  reach_sum_set (x ∷ items) [] j r it e h read = absurd (omega arith)
  reach_sum_set (x ∷ items) (p ∷ ps) zero r it e h read =
      let w : n.reach (worth n it r) ≡ n.reach (worth n x r) = ap (λ (y : Item V). n.reach (worth n y r)) read in
      omega (arith, laws.reach_nil)
  reach_sum_set (x ∷ items) (p ∷ ps) (suc j) r it e h read =
      let same : length ps ≡ length items = omega arith in
      let less : j < length items = omega arith in
      omega (arith, reach_sum_set items ps j r it same less read)

  pub reach_comes : (items : List (Item V)) (ps : List (Option Role)) → reach_sum n items ps ≤ limit → n.reach (comes n items ps) ≤ reach_sum n items ps
  reach_comes items ps = reach_total laws (worths n items ps)

  -- a record at place j in role r adds what it is worth
  pub comes_set : (items : List (Item V)) (ps : List (Option Role)) (j : ℕ) (r : Option Role) (it : Item V) → length ps ≡ length items → j < length items → it ≡ get_or items j it → reach_sum n items (set ps j r) ≤ limit → comes n items (set ps j r) ≡ n.plus (comes n items (set ps j None)) (worth n it r)
  comes_set [] ps j r it e h read light = absurd (omega arith)
  comes_set (x ∷ items) [] j r it e h read light = absurd (omega arith)
  comes_set (x ∷ items) (p ∷ ps) zero r it e h read light =
      let less : reach_sum n items ps ≤ limit = omega arith in
      let rest : n.reach (comes n items ps) ≤ reach_sum n items ps = reach_comes items ps less in
      let both : n.reach (worth n x r) + n.reach (comes n items ps) ≤ limit = omega arith in
      let one : n.reach (comes n items ps) ≤ limit = omega arith in
      laws.plus_comm (worth n x r) (comes n items ps) both
      ∙ ap (λ (c : V). n.plus c (worth n x r)) (sym (nil_plus laws (comes n items ps) one))
      ∙ ap (λ (y : Item V). n.plus (n.plus n.nil (comes n items ps)) (worth n y r)) (sym read)
  comes_set (x ∷ items) (p ∷ ps) (suc j) r it e h read light =
      let same : length ps ≡ length items = omega arith in
      let less : j < length items = omega arith in
      let inner : reach_sum n items (set ps j r) ≤ limit = omega arith in
      let split : reach_sum n items (set ps j r) ≡ reach_sum n items (set ps j None) + n.reach (worth n it r) = reach_sum_set items ps j r it same less read in
      let fits : reach_sum n items (set ps j None) ≤ limit = omega arith in
      let rest : n.reach (comes n items (set ps j None)) ≤ reach_sum n items (set ps j None) = reach_comes items (set ps j None) fits in
      let three : n.reach (worth n x p) + n.reach (comes n items (set ps j None)) + n.reach (worth n it r) ≤ limit = omega arith in
      ap (n.plus (worth n x p)) (comes_set items ps j r it same less read inner)
      ∙ sym (laws.plus_assoc (worth n x p) (comes n items (set ps j None)) (worth n it r) three)

  pub length_worths : (items : List (Item V)) (ps : List (Option Role)) → length ps ≡ length items → length (worths n items ps) ≡ length items
  length_worths [] ps e = refl
  length_worths (x ∷ items) [] e = absurd (omega arith)
  length_worths (x ∷ items) (p ∷ ps) e = ap suc (length_worths items ps (omega arith))

  -- what a record contributes that was read with its role
  worths_read : (items : List (Item V)) (ps : List (Option Role)) (k : ℕ) (it : Item V) (p : Option Role) → length ps ≡ length items → k < length items → it ≡ get_or items k it → p ≡ get_or ps k None → worth n it p ≡ get_or (worths n items ps) k (worth n it p)
  worths_read [] ps k it p e h read role = absurd (omega arith)
  worths_read (x ∷ items) [] k it p e h read role = absurd (omega arith)
  worths_read (x ∷ items) (q ∷ ps) zero it p e h read role = ap₂ (worth n) read role
  worths_read (x ∷ items) (q ∷ ps) (suc k) it p e h read role = worths_read items ps k it p (omega arith) (omega arith) read role

  -- one turn of the sum: `sum` of the contributions before place k, and `next` with that of place k
  pub sum_turn : (items : List (Item V)) (roles : List (Option Role)) → Light n items → length items ≤ length roles → (k : ℕ) (it : Item V) (x sum next : V) → k < length items → it ≡ get_or items k it → x ≡ worth n it (get_or roles k None) → sum ≡ total n (take k (worths n items (take (length items) roles))) → (n.reach sum + n.reach x ≤ limit → next ≡ n.plus sum x) → next ≡ total n (take (k + 1) (worths n items (take (length items) roles)))
  sum_turn items roles light long k it x sum next h read is so_far promised =
      let ps : List (Option Role) = take (length items) roles in
      let same : length ps ≡ length items = length-take-le (length items) roles long in
      let found : worth n it (get_or roles k None) ≡ get_or (worths n items ps) k (worth n it (get_or roles k None)) = worths_read items ps k it (get_or roles k None) same h read (sym (get_or-take (length items) roles k None h)) in
      total_step laws (worths n items ps) k x sum next (omega (arith, length_worths items ps same)) (subst (λ (y : V). y ≡ get_or (worths n items ps) k y) (sym is) found) (light ps same) so_far promised
