-- The iterator over the storeys that are set.
-- Assumes nothing.
use Rattle.std.proofs.Common.{◌≡◌, ℕ, Bool, true, false, cond, List, [], ◌∷◌, length, Some, None, Option, option_to_list, MatchBool, is_some, count_by, sum_by, flat_map, map, sym, refl, ap, ◌∙◌, subst, arith, Bor}
use Rattle.std.specs.Iterator.Adapters.{option_iter_steps, option_iter_done, option_iter_item, flatten_source, flatten_front, flatten_back, flatten_done, flatten_steps}
use Rattle.std.specs.Slice.Iter.{iter_rest}
use Rattle.std.proofs.iter.Yields.{fronts}
use Rattle.std.proofs.lemmas.Iterator.{YieldsList, YieldsList-from_slice}
use Rattle.std.proofs.lemmas.Iterator.Adapters.{YieldsList-from_flatten}
use Rattle.std.proofs.lemmas.Iterator.Consumers.{YieldsList-from_shown}
use Rattle.std.proofs.lemmas.List.Sums.{sum_by-cons}
use Rattle.column.specs.declared.storeys.Storey.{Storey}

module _ {A : Type 0} where
  none_by : (P : Type 0) (b : Bool) (o : Option A) → MatchBool b P (None ≡ o) → length (cond b [] (option_to_list o)) ≡ 0
  none_by P true o h = refl
  none_by P false o h = ap (λ k. length (option_to_list k)) (sym h)

  some_by : (b : Bool) (o : Option A) (x : Bor A) → MatchBool b (Some x ≡ None) (Some x.now ≡ o) → cond b [] (option_to_list o) ≡ x.now ∷ []
  some_by true o x h = absurd cc
  some_by false o x h = ap option_to_list (sym h)

  gives : (s : _) → YieldsList (option_iter_steps {A = A}) (λ y. y.now) s (cond (option_iter_done s) [] (option_to_list (option_iter_item s)))
  gives =
      YieldsList-from_shown (option_iter_steps {A = A}) (λ y. y.now) (λ s. cond (option_iter_done s) [] (option_to_list (option_iter_item s)))
      (λ s t h. none_by _ (option_iter_done s) (option_iter_item s) h.1)
      (λ s x t h.
      some_by (option_iter_done s) (option_iter_item s) x h.1 ∙ ap (λ b. x.now ∷ cond b [] (option_to_list (option_iter_item t))) (sym h.0))

  -- the iterator of an option gives what that holds
  pub opened : (o : Option A) (s : _) → option_iter_item s ≡ o → option_iter_done s ≡ false → YieldsList (option_iter_steps {A = A}) (λ y. y.now) s (option_to_list o)
  opened o s e d =
      subst (λ k. YieldsList (option_iter_steps {A = A}) (λ y. y.now) s (option_to_list k)) e
      (subst (λ b. YieldsList (option_iter_steps {A = A}) (λ y. y.now) s (cond b [] (option_to_list (option_iter_item s)))) d (gives s))

-- the storeys that are set
abbrev pub set_storeys : List (Option Storey) → List Storey
set_storeys xs = flat_map option_to_list xs

-- the iterator over all storeys, flattened, gives those that are set
pub yields_set : (xs : List (Option Storey)) (becomes : Bor (Option Storey) → _ → Type 0)
    → ((x : Bor (Option Storey)) (s : _) → becomes x s → (option_iter_item s ≡ x.now) × (option_iter_done s ≡ false))
    → {s : _} → iter_rest (flatten_source s) ≡ xs → flatten_front s ≡ None → flatten_back s ≡ None → flatten_done s ≡ false
    → YieldsList (flatten_steps fronts becomes option_iter_steps) (λ y. y.now) s (set_storeys xs)
yields_set xs becomes opens rest front back done =
    YieldsList-from_flatten becomes option_iter_steps (λ y. y.now) option_to_list (λ x s h. opened x.now s (opens x s h).0 (opens x s h).1)
    (YieldsList-from_slice xs rest) front back done

pub counted : (xs : List (Option Storey)) → length (set_storeys xs) ≡ count_by is_some xs
counted [] = refl
counted (None ∷ xs) = omega (arith, counted xs, sum_by-cons (λ y. cond (is_some y) 1 0) None xs)
counted (Some x ∷ xs) = omega (arith, counted xs, sum_by-cons (λ y. cond (is_some y) 1 0) (Some x) xs)

pub summed : (f : Option Storey → ℕ) → f None ≡ 0 → (xs : List (Option Storey)) → sum_by (λ x. f (Some x)) (set_storeys xs) ≡ sum_by f xs
summed f e [] = refl
summed f e (None ∷ xs) = omega (arith, e, summed f e xs, sum_by-cons f None xs)
summed f e (Some x ∷ xs) = omega (arith, summed f e xs, sum_by-cons f (Some x) xs, sum_by-cons (λ y. f (Some y)) x (set_storeys xs))

pub summed_now : (f : Option Storey → ℕ) → f None ≡ 0 → (xs : List (Option Storey)) (ys : List (Bor Storey)) → map (λ y. y.now) ys ≡ set_storeys xs
    → sum_by (λ y. f (Some y.now)) ys ≡ sum_by f xs
summed_now f e xs ys m = now ys ∙ ap (sum_by (λ x. f (Some x))) m ∙ summed f e xs
  where
    now : (zs : List (Bor Storey)) → sum_by (λ y. f (Some y.now)) zs ≡ sum_by (λ x. f (Some x)) (map (λ y. y.now) zs)
    now [] = refl
    now (z ∷ zs) = omega (arith, now zs, sum_by-cons (λ y. f (Some y.now)) z zs, sum_by-cons (λ x. f (Some x)) z.now (map (λ y. y.now) zs))
