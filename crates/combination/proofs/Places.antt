-- The lines of a choice, place by place.
use Rattle.std.proofs.Common.{◌≡◌, ℕ, zero, suc, ◌+◌, ◌<◌, ◌≤◌, min, Bool, true, false, cond, ◌⊎◌, List, [], ◌∷◌, ◌++◌, map, length, get_or, drop, Decides, MatchBool, sym, refl, ap, ◌∙◌, ap₂, inl, inr, ⊎_elim, add-one, arith, drop-cons}
use Rattle.std.proofs.lemmas.List.{drop_all}
use Rattle.std.proofs.lemmas.Bool.{cases_lt, false≢true}
use Rattle.loads.specs.declared.records.Record.{Record}
use Rattle.std.specs.List.{HoldsAt, AllWithin, AllByRecursion, filter}
use Rattle.std.proofs.lemmas.List.Sums.{length-filter}
use Rattle.std.proofs.lemmas.List.Recursion.{is_count_by}
use Rattle.std.proofs.ByRecursion.{All-get_or, all_from_every}
use Rattle.combination.specs.Choices.{Line, lines}
use Rattle.combination.specs.Lists.{EachTwo, count}
use Rattle.combination.specs.declared.picks.Pick.{Pick}

pub one_most : (b : Bool) → cond b 1 0 ≤ 1
one_most true = omega arith
one_most false = omega arith

one_more : (b : Bool) (n : ℕ) → cond b 1 0 + n ≡ cond b (1 + n) n
one_more true n = refl
one_more false n = omega arith

-- those that pass a test, counted
pub count_is : {X : Type 0} (p : X → Bool) (xs : List X) → length (filter p xs) ≡ count p xs
count_is p xs = length-filter p xs ∙ sym (is_count_by (count p) p refl (λ x xs. one_more (p x) (count p xs)) xs)

module _ {E : Type 0} where
  lines_empty : (rs : List (Record E)) → lines rs [] ≡ []
  lines_empty [] = refl
  lines_empty (r ∷ rs) = refl

  -- the lines from place i on: that at i, and those after it
  pub lines_at : (records : List (Record E)) (picks : List Pick) (i : ℕ) (r : Record E) (p : Pick) → i < min (length records) (length picks) → lines (drop i records) (drop i picks) ≡ (get_or records i r, get_or picks i p) ∷ lines (drop (i + 1) records) (drop (i + 1) picks)
  lines_at records picks i r p h =
      let a : i < length records = omega arith in
      let b : i < length picks = omega arith in
      rw add-one (ap₂ lines (drop-cons records i r a) (drop-cons picks i p b))

  -- there are none past the end
  pub lines_none : (records : List (Record E)) (picks : List Pick) (i : ℕ) → min (length records) (length picks) ≤ i → lines (drop i records) (drop i picks) ≡ []
  lines_none records picks i h =
      ⊎_elim
      (λ (past : length picks ≤ i). ap (lines (drop i records)) (drop_all i picks past) ∙ lines_empty (drop i records))
      (λ (past : length records ≤ i). ap (λ (rs : List (Record E)). lines rs (drop i picks)) (drop_all i records past))
      (shorter (cases_lt (length picks) (length records)))
    where
      shorter : (length picks < length records) ⊎ (length records ≤ length picks) → (length picks ≤ i) ⊎ (length records ≤ i)
      shorter (inl k) = inl (omega arith)
      shorter (inr k) = inr (omega arith)

  pub length_lines : (records : List (Record E)) (picks : List Pick) → length (lines records picks) ≡ min (length records) (length picks)
  length_lines [] picks = omega arith
  length_lines (r ∷ rs) [] = omega arith
  length_lines (r ∷ rs) (p ∷ ps) = omega (arith, length_lines rs ps)

  -- what is made of the line at place i
  pub map_lines_at : {Y : Type 0} (f : Line E → Y) (records : List (Record E)) (picks : List Pick) (i : ℕ) (r : Record E) (p : Pick) (d : Y) → i < min (length records) (length picks) → get_or (map f (lines records picks)) i d ≡ f (get_or records i r, get_or picks i p)
  map_lines_at f [] picks i r p d h = absurd (omega arith)
  map_lines_at f (x ∷ rs) [] i r p d h = absurd (omega arith)
  map_lines_at f (x ∷ rs) (q ∷ ps) zero r p d h = refl
  map_lines_at f (x ∷ rs) (q ∷ ps) (suc i) r p d h = map_lines_at f rs ps i r p d (omega arith)

-- `all` with a test of P
pub decided_by_all : {X : Type 0} (P : X → Type 0) (xs : List X) (r : Bool) → MatchBool r (AllWithin P xs 0 (length xs)) ((k : ℕ) × (k < length xs) × HoldsAt (λ x. P x → ⊥) xs k) → Decides r (AllByRecursion P xs)
decided_by_all P xs true h = (λ _. all_from_every P xs h, λ _. refl)
decided_by_all P [] false h = absurd (omega (arith, h.1))
decided_by_all P (x ∷ xs) false h = (λ e. absurd (false≢true e), λ all. absurd (h.2 x (All-get_or P (x ∷ xs) h.0 x h.1 all)))

pub length_more : {X : Type 0} (xs : List X) (x : X) → length (xs ++ x ∷ []) ≡ length xs + 1
length_more [] x = refl
length_more (y ∷ xs) x = omega (arith, length_more xs x)

-- where there are no picks there are no lines
pub each_two_of_none : {E : Type 0} (R : Line E → Line E → Type 0) (records : List (Record E)) (picks : List Pick) → length picks < 1 → EachTwo R (lines records picks)
each_two_of_none R [] picks h = tt
each_two_of_none R (r ∷ rs) [] h = tt
each_two_of_none R (r ∷ rs) (p ∷ ps) h = absurd (omega arith)
