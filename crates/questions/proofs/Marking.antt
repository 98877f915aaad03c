-- Which records are of a kind, one after the other; and sums and picks, one after the other.
use Rattle.std.proofs.Common.{◌≡◌, ℕ, ◌+◌, ◌*◌, ◌<◌, ◌≤◌, Bool, true, false, cond, ◌≢◌, List, [], ◌∷◌, map, length, get_or, take, set, replicate, sym, refl, ap, ◌∙◌, subst, ⊎_elim, arith, length-set, mul-le-mul_right, suc-mul, get_or-set_other, get_or-set_same, None}
use lib.ListN.{length-map}
use Rattle.std.proofs.lemmas.List.{get_or-map, ext_get_or, get_or-take, length-take-le}
use Rattle.std.proofs.lemmas.Bool.{cases_eq}
use Rattle.std.specs.List.{AllByRecursion}
use Rattle.effect.specs.Laws.{Operations, Laws, limit}
use Rattle.effect.specs.Sums.{total, reaches}
use Rattle.effect.proofs.Totals.{total_step}
use Rattle.questions.specs.Items.{InRange, Kept}
use Rattle.questions.specs.declared.pair.Parts.{Parts}
use Rattle.loads.specs.declared.kinds.Kind.{Kind}
use Rattle.loads.specs.declared.kinds.Kind.TheVariants.{Permanent}
use Rattle.loads.specs.declared.records.Record.{Record}
use Rattle.questions.proofs.Readies.{most}
use Rattle.questions.proofs.Starts.{blank}
use Rattle.combination.specs.Choices.{is_of_kind}
use Rattle.questions.specs.Engine.{fixed_best, joined}
use Rattle.questions.specs.PartChoices.{roles_of}
use Rattle.questions.specs.Parts.{mask, fixed, best_factor, placed}
use Rattle.combination.specs.declared.picks.Pick.{Pick}
use Rattle.combination.specs.declared.picks.Pick.TheVariants as pick
use Rattle.questions.proofs.Merges.{length_merged, merged_at}
use Rattle.questions.proofs.Splits.{fixed_bound}

pub record Marking {V : Type 0} (rs : List (Record V)) (kind : Kind) (flags : List Bool) (i : ℕ) : Type 0 where
  pub size : length flags ≡ 32
  pub below : (k : ℕ) → k < i → get_or flags k false ≡ get_or (mask kind rs) k false
  pub above : (k : ℕ) → i ≤ k → get_or flags k false ≡ false

module _ {V : Type 0} (rs : List (Record V)) (kind : Kind) where
  pub marking_none : Marking rs kind (replicate 32 false) 0
  marking_none = record { size = refl; below = λ k h. absurd (omega arith); above = λ k h. blank 32 k }

-- what the permanent loads add, each by the factor that comes to the most
abbrev pub bests : {V : Type 0} → Operations V → List (Record V) → List V
bests e rs = map (λ r. fixed e r.kind (best_factor e r) r) rs

pub bests_total : {V : Type 0} (e : Operations V) (rs : List (Record V)) → total e (bests e rs) ≡ fixed_best e rs
bests_total e [] = refl
bests_total e (r ∷ rs) = ap (e.plus (fixed e r.kind (best_factor e r) r)) (bests_total e rs)

module _ {V : Type 0} {e : Operations V} (laws : Laws e) where
  bests_reach : (rs : List (Record V)) → AllByRecursion (InRange e) rs → reaches e (bests e rs) ≤ length rs * most
  bests_reach [] h = omega arith
  bests_reach (r ∷ rs) h = omega (arith, fixed_bound laws r.kind (best_factor e r) r h.0, upto (is_of_kind Permanent r.kind), bests_reach rs h.1, suc-mul (length rs) most)
    where
      upto : (b : Bool) → cond b most 0 ≤ most
      upto true = omega arith
      upto false = omega arith

  -- one turn of their sum
  pub fixed_turn : (rs : List (Record V)) → Kept e rs → (k : ℕ) (r : Record V) (x sum next : V) → k < length rs → r ≡ get_or rs k r → x ≡ fixed e r.kind (best_factor e r) r → sum ≡ total e (take k (bests e rs)) → (e.reach sum + e.reach x ≤ limit → next ≡ e.plus sum x) → next ≡ total e (take (k + 1) (bests e rs))
  fixed_turn rs kept k r x sum next h read is so_far promised =
      let f : Record V → V = λ r. fixed e r.kind (best_factor e r) r in
      total_step laws (bests e rs) k x sum next (omega (arith, length-map rs f))
      (is ∙ ap f read ∙ sym (get_or-map f rs k r x h))
      (omega (arith, bests_reach rs kept.in_range, mul-le-mul_right most kept.few)) so_far promised

module _ {V : Type 0} (e : Operations V) (rs : List (Record V)) (p : Parts) where
  -- the picks before place i are given
  pub record Joining (picks : List Pick) (i : ℕ) : Type 0 where
    pub size : length picks ≡ 32
    pub below : (k : ℕ) → k < i → get_or picks k pick.Out ≡ get_or (joined e rs p) k pick.Out

  pub joining_more : (picks : List Pick) (i : ℕ) (x : Pick) (r : Record V) → i < length rs → length rs ≤ 32 → r ≡ get_or rs i r → x ≡ placed e r.kind r (get_or (roles_of p.long) i None) (get_or (roles_of p.short) i None) (get_or (roles_of p.special) i None) → Joining picks i → Joining (set picks i x) (i + 1)
  joining_more picks i x r h few is pe m = record { size = length-set picks i x ∙ m.size; below = below }
    where
      below : (k : ℕ) → k < i + 1 → get_or (set picks i x) k pick.Out ≡ get_or (joined e rs p) k pick.Out
      below k lt = ⊎_elim
          (λ (same : k ≡ i). subst (λ (j : ℕ). get_or (set picks i x) j pick.Out ≡ get_or (joined e rs p) j pick.Out) (sym same)
          (get_or-set_same picks i x pick.Out (omega (arith, m.size)) ∙ pe
          ∙ ap (λ (y : Record V). placed e y.kind y (get_or (roles_of p.long) i None) (get_or (roles_of p.short) i None) (get_or (roles_of p.special) i None)) is
          ∙ sym (merged_at e rs (λ j. get_or (roles_of p.long) j None) (λ j. get_or (roles_of p.short) j None) (λ j. get_or (roles_of p.special) j None) i r h)))
          (λ (ne : k ≢ i). get_or-set_other picks i k x pick.Out ne ∙ m.below k (omega arith))
          (cases_eq k i)

  pub joining_all : (picks : List Pick) (i : ℕ) → length rs ≤ 32 → length rs ≤ i → Joining picks i → take (length rs) picks ≡ joined e rs p
  joining_all picks i few h m =
      let long : length (take (length rs) picks) ≡ length rs = length-take-le (length rs) picks (omega (arith, m.size)) in
      ext_get_or pick.Out (take (length rs) picks) (joined e rs p)
      (long ∙ sym (length_merged e rs (λ j. get_or (roles_of p.long) j None) (λ j. get_or (roles_of p.short) j None) (λ j. get_or (roles_of p.special) j None)))
      (λ k lt. get_or-take (length rs) picks k pick.Out (omega arith) ∙ m.below k (omega arith))
