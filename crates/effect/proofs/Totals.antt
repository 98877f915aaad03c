-- What the laws of an effect type give of sums of lists.
use Rattle.std.proofs.Common.{◌≡◌, ℕ, ◌+◌, ◌<◌, ◌≤◌, List, [], ◌∷◌, ◌++◌, length, get_or, take, drop, sym, refl, ap, ◌∙◌, arith, take-append-drop}
use Rattle.std.proofs.lemmas.List.{take_more}
use Rattle.effect.specs.Laws.{Operations, Laws, limit}
use Rattle.effect.specs.Rearranging.{Rearranged, none, keep, swap, both}
use Rattle.effect.specs.Sums.{total, reaches, Summed}
use Rattle.effect.proofs.Derived.{nil_plus}
use Rattle.effect.proofs.Rearranging.{reaches_rearranged}

pub take_pushed : {V : Type 0} (xs : List V) (i : ℕ) (x : V) → i < length xs → x ≡ get_or xs i x → take (i + 1) xs ≡ take i xs ++ (x ∷ [])
take_pushed xs i x within read = take_more xs i x within ∙ ap (λ y. take i xs ++ (y ∷ [])) (sym read)

module _ {V : Type 0} (e : Operations V) where
  pub reaches_append : (xs ys : List V) → reaches e (xs ++ ys) ≡ reaches e xs + reaches e ys
  reaches_append [] ys = omega arith
  reaches_append (x ∷ xs) ys = omega (arith, reaches_append xs ys)

  pub reaches_take : (n : ℕ) (xs : List V) → reaches e (take n xs) ≤ reaches e xs
  reaches_take n xs = omega (arith, ap (reaches e) (take-append-drop n xs), reaches_append (take n xs) (drop n xs))

module _ {V : Type 0} {e : Operations V} (laws : Laws e) where
  pub reach_total : (xs : List V) → reaches e xs ≤ limit → e.reach (total e xs) ≤ reaches e xs
  reach_total [] h = omega (arith, laws.reach_nil)
  reach_total (x ∷ xs) h =
      let rest : e.reach (total e xs) ≤ reaches e xs = reach_total xs (omega arith) in
      omega (arith, laws.reach_plus x (total e xs) (omega arith))

  pub total_append : (xs ys : List V) → reaches e xs + reaches e ys ≤ limit → total e (xs ++ ys) ≡ e.plus (total e xs) (total e ys)
  total_append [] ys h = sym (nil_plus laws (total e ys) (omega (arith, reach_total ys (omega arith))))
  total_append (x ∷ xs) ys h =
      let rest : reaches e xs + reaches e ys ≤ limit = omega arith in
      let small : e.reach x + e.reach (total e xs) + e.reach (total e ys) ≤ limit = omega (arith, reach_total xs (omega arith), reach_total ys (omega arith)) in
      ap (e.plus x) (total_append xs ys rest) ∙ sym (laws.plus_assoc x (total e xs) (total e ys) small)

  -- one value more of xs
  pub total_next : (xs : List V) (i : ℕ) (x : V) → i < length xs → x ≡ get_or xs i x → reaches e (take (i + 1) xs) ≤ limit → e.plus (total e (take i xs)) x ≡ total e (take (i + 1) xs)
  total_next xs i x within read h =
      let pushed = take_pushed xs i x within read in
      let all : reaches e (take i xs) + (e.reach x + 0) ≤ limit = omega (arith, ap (reaches e) pushed, reaches_append e (take i xs) (x ∷ [])) in
      sym (ap (total e) pushed ∙ total_append (take i xs) (x ∷ []) all ∙ ap (e.plus (total e (take i xs))) (laws.plus_nil x (omega arith)))

  -- a loop's step: the sum so far with the next value, as `sum` promises it
  pub total_step : (xs : List V) (i : ℕ) (x sum next : V) → i < length xs → x ≡ get_or xs i x → reaches e xs ≤ limit → sum ≡ total e (take i xs) → (e.reach sum + e.reach x ≤ limit → next ≡ e.plus sum x) → next ≡ total e (take (i + 1) xs)
  total_step xs i x sum next within read h s promised =
      let pushed = take_pushed xs i x within read in
      let more : reaches e (take (i + 1) xs) ≤ limit = omega (arith, reaches_take e (i + 1) xs) in
      let all : reaches e (take i xs) + e.reach x ≤ limit = omega (arith, ap (reaches e) pushed, reaches_append e (take i xs) (x ∷ [])) in
      let small : e.reach sum + e.reach x ≤ limit = omega (arith, ap e.reach s, reach_total (take i xs) (omega arith)) in
      promised small ∙ ap (λ (v : V). e.plus v x) s ∙ total_next xs i x within read more

  pub total_rearranged : {xs ys : List V} → Rearranged xs ys → reaches e xs ≤ limit → total e xs ≡ total e ys
  total_rearranged none h = refl
  total_rearranged (keep {x = x} r) h = ap (e.plus x) (total_rearranged r (omega arith))
  total_rearranged (swap {x = x} {y = y} {xs = xs}) h =
      let rest : e.reach (total e xs) ≤ reaches e xs = reach_total xs (omega arith) in
      sym (laws.plus_assoc x y (total e xs) (omega arith)) ∙ ap (λ z. e.plus z (total e xs)) (laws.plus_comm x y (omega arith)) ∙ laws.plus_assoc y x (total e xs) (omega arith)
  total_rearranged (both r s) h = total_rearranged r h ∙ total_rearranged s (omega (arith, reaches_rearranged e r))

  pub summed : (xs : List V) (r : V) → reaches e xs ≤ limit → r ≡ total e xs → Summed e xs r
  summed xs r h s = record {
    value = s;
    any_order = λ ys o. s ∙ total_rearranged o h;
    reach = omega (arith, ap e.reach s, reach_total xs h);
  }
