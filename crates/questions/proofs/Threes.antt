-- Three slices, read side by side.
use Rattle.std.proofs.Common.{◌≡◌, ℕ, ◌<◌, ◌≤◌, List, length, get_or, Some, None, Option, Bor, ap, ◌∙◌, arith}
use Rattle.std.proofs.iter.Yields.{fronts}
use Rattle.std.proofs.lemmas.Iterator.{YieldsList, YieldsList-from_slice, YieldsList-from_zip, zips}
use Rattle.std.proofs.lemmas.Iterator.Consumers.{YieldsList-turn, YieldsList-end}
use Rattle.std.specs.Iterator.{Yields}
use Rattle.std.specs.Iterator.Adapters.{zip_first, zip_second}
use Rattle.std.specs.List.{zip}
use Rattle.std.specs.Slice.Iter.{iter_rest}
use Rattle.std.specs.declared.iter.Zip.{Zip}
use Rattle.std.specs.declared.slice.Iter.{Iter}
use Rattle.std.proofs.lemmas.Slice.Zip.{length-zip, get_or-zip}

module _ {A B C : Type 0} (xs : List A) (ys : List B) (zs : List C) where
  abbrev three : List ((A × B) × C)
  three = zip (zip xs ys) zs

  length_three : length xs ≤ length ys → length xs ≤ length zs → length three ≡ length xs
  length_three hy hz = omega (arith, length-zip (zip xs ys) zs, length-zip xs ys)

  -- what is read at a place of the three together is read there of each
  three_read : (k : ℕ) (x : A) (y : B) (z : C) → k < length three → ((x, y), z) ≡ get_or three k ((x, y), z) → (k < length xs) × (x ≡ get_or xs k x) × (y ≡ get_or ys k y) × (z ≡ get_or zs k z)
  three_read k x y z h e =
      let lz = length-zip (zip xs ys) zs in
      let ly = length-zip xs ys in
      let hx : k < length xs = omega arith in
      let hy : k < length ys = omega arith in
      let hz : k < length zs = omega arith in
      let hxy : k < length (zip xs ys) = omega arith in
      let one = e ∙ get_or-zip (zip xs ys) zs k ((x, y), z) hxy hz in
      let two = ap (λ (p : (A × B) × C). p.0) one ∙ get_or-zip xs ys k (x, y) hx hy in
      (hx, ap (λ (p : A × B). p.0) two, ap (λ (p : A × B). p.1) two, ap (λ (p : (A × B) × C). p.1) one)

  module _ (items : List ((Bor A × Bor B) × Bor C)) (s t u : Zip (Zip (Iter A) (Iter B)) (Iter C)) (r : Option ((Bor A × Bor B) × Bor C)) (first : iter_rest (zip_first (zip_first s)) ≡ xs) (second : iter_rest (zip_second (zip_first s)) ≡ ys) (third : iter_rest (zip_second s) ≡ zs) (yielded : Yields (zips (zips fronts fronts) fronts) s items t) where
    road : YieldsList (zips (zips fronts fronts) fronts) (λ p. ((p.0.0.now, p.0.1.now), p.1.now)) s three
    road = YieldsList-from_zip (YieldsList-from_zip (YieldsList-from_slice xs first) (YieldsList-from_slice ys second)) (YieldsList-from_slice zs third)

    -- what a turn of a `for` reads
    pub three_turn : (x : Bor A) (y : Bor B) (z : Bor C) → r ≡ Some ((x, y), z) → zips (zips fronts fronts) fronts t r u → (length items < length xs) × (x.now ≡ get_or xs (length items) x.now) × (y.now ≡ get_or ys (length items) y.now) × (z.now ≡ get_or zs (length items) z.now)
    three_turn x y z is steps =
        let turn = YieldsList-turn road items t yielded r u ((x, y), z) is steps in
        three_read (length items) x.now y.now z.now turn.0 turn.1

    -- how many turns there were
    pub three_end : length xs ≤ length ys → length xs ≤ length zs → r ≡ None → zips (zips fronts fronts) fronts t r u → length items ≡ length xs
    three_end hy hz is steps = (YieldsList-end road items t yielded r u is steps).1 ∙ length_three hy hz
