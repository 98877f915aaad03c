-- Rows of values that are written as fields, split by one blank.
use Rattle.std.proofs.Common.{◌≡◌, ℕ, zero, suc, ◌+◌, ◌<◌, List, [], ◌∷◌, ◌++◌, length, get_or, drop, refl, ap, ◌∙◌, append_assoc, add-one, arith}
use Rattle.std.proofs.lemmas.List.{drop_all, drop_more}
use Rattle.std.specs.List.{AllByRecursion}
use Rattle.lines.specs.Reading.{Ends, spaced}
use Rattle.lines.proofs.Fields.{OwnFields, one_way, solid_own}

module _ {A : Type 0} (written : A → List ℕ) where
  pub ends_row : (xs : List A) (t : List ℕ) → (length xs ≡ 0 → Ends t) → Ends (spaced written xs t)
  ends_row [] t h = h refl
  ends_row (x ∷ xs) t h = refl

  pub spaced_push : (xs : List A) (a : A) (t : List ℕ) → spaced written (xs ++ a ∷ []) t ≡ spaced written xs (32 ∷ (written a ++ t))
  spaced_push [] a t = refl
  spaced_push (x ∷ xs) a t = ap (λ l. 32 ∷ (written x ++ l)) (spaced_push xs a t)

  -- what follows a row
  pub spaced_append : (xs : List A) (s t : List ℕ) → spaced written xs s ++ t ≡ spaced written xs (s ++ t)
  spaced_append [] s t = refl
  spaced_append (x ∷ xs) s t = ap (λ l. 32 ∷ l) (append_assoc (written x) (spaced written xs s) t ∙ ap (λ l. written x ++ l) (spaced_append xs s t))

module _ {A : Type 0} {valid : A → Type 0} {written : A → List ℕ} (own : OwnFields valid written) where
  -- two rows of one length in one text are the same
  pub same_row : (xs ms : List A) (r t : List ℕ) → AllByRecursion valid xs → AllByRecursion valid ms → length xs ≡ length ms → (0 < length xs → Ends r) → Ends t → spaced written xs r ≡ spaced written ms t → (xs ≡ ms) × (r ≡ t)
  same_row [] [] r t vx vm l er et e = (refl, e)
  same_row [] (m ∷ ms) r t vx vm l er et e = absurd (omega arith)
  same_row (x ∷ xs) [] r t vx vm l er et e = absurd (omega arith)
  same_row (x ∷ xs) (m ∷ ms) r t vx vm l er et e =
      let tail-x = ends_row written xs r (λ h. er (omega arith)) in
      let tail-m = ends_row written ms t (λ h. et) in
      let cut : written x ++ spaced written xs r ≡ written m ++ spaced written ms t = cc in
      let one = one_way (written x) (written m) (spaced written xs r) (spaced written ms t) (solid_own own x vx.0) (solid_own own m vm.0) tail-x tail-m cut in
      let head : x ≡ m = own.same x m vx.0 vm.0 one.0 in
      let more = same_row xs ms r t vx.1 vm.1 (omega arith) (λ h. er (omega arith)) et one.1 in
      ((λ i. head i ∷ more.0 i), more.1)

  -- a row that goes on where no value follows
  pub no_row : (xs ms : List A) (r t : List ℕ) → AllByRecursion valid xs → AllByRecursion valid ms → length xs < length ms → (0 < length xs → Ends r) → Ends t → spaced written xs r ≡ spaced written ms t → ((a : A) (u : List ℕ) → valid a → Ends u → r ≡ 32 ∷ (written a ++ u) → ⊥) → ⊥
  no_row xs [] r t vx vm l er et e none = absurd (omega arith)
  no_row [] (m ∷ ms) r t vx vm l er et e none = none m (spaced written ms t) vm.0 (ends_row written ms t (λ h. et)) e
  no_row (x ∷ xs) (m ∷ ms) r t vx vm l er et e none =
      let tail-x = ends_row written xs r (λ h. er (omega arith)) in
      let tail-m = ends_row written ms t (λ h. et) in
      let cut : written x ++ spaced written xs r ≡ written m ++ spaced written ms t = cc in
      let one = one_way (written x) (written m) (spaced written xs r) (spaced written ms t) (solid_own own x vx.0) (solid_own own m vm.0) tail-x tail-m cut in
      no_row xs ms r t vx.1 vm.1 (omega arith) (λ h. er (omega arith)) et one.1 none

-- the first n items from the i-th on, one by one
abbrev pub items_from : ℕ → ℕ → List ℕ → List ℕ
items_from zero i xs = []
items_from (suc n) i xs = get_or xs i 0 ∷ items_from n (suc i) xs

items_drop : (n i : ℕ) (xs : List ℕ) → length xs ≡ i + n → drop i xs ≡ items_from n i xs
items_drop zero i xs long = drop_all i xs (omega arith)
items_drop (suc n) i xs long =
    drop_more xs i 0 (omega arith) ∙ ap (λ l. get_or xs i 0 ∷ l) (ap (λ k. drop k xs) (add-one i) ∙ items_drop n (suc i) xs (omega arith))

-- an array whose length is known is the list of its items, as `get_or xs 0 0 ∷ get_or xs 1 0 ∷ []` at 2
pub items : (n : ℕ) (xs : List ℕ) → length xs ≡ n → xs ≡ items_from n 0 xs
items n xs long = items_drop n 0 xs (omega arith)
