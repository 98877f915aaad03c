-- What holds of each element of an array made place by place, where no call changes what makes it.
use Rattle.std.proofs.Common.{◌≡◌, ℕ, zero, suc, ◌+◌, ◌<◌, ◌≤◌, ◌≢◌, List, get_or, sym, subst, ⊎_elim, arith}
use Rattle.std.proofs.lemmas.Bool.{cases_eq}
use Rattle.std.specs.Array.{IsFromFnResult, IsFromFnResultFrom}
use denote.Param.Members.{Mut, Called}

module _ {F B : Type 0} (g : Mut F (ℕ × Unit {0}) B) (f : F) (P : ℕ → B → Type 0) (calls : (i : ℕ) (y : B) (q : F) → Called g f (i, tt) y q → (q ≡ f) × P i y) where
  from : (ys : List B) (i n : ℕ) → IsFromFnResultFrom g f ys i n → (k : ℕ) (d : B) → i ≤ k → k < i + n → P k (get_or ys k d)
  from ys i zero h k d low high = absurd (omega arith)
  from ys i (suc n) h k d low high =
      let called = calls i h.1 h.0 h.3 in
      ⊎_elim
      (λ (same : k ≡ i). subst (λ (j : ℕ). P j (get_or ys j d)) (sym same) (subst (P i) (sym (h.2.1 d)) called.1))
      (λ (ne : k ≢ i). from ys (i + 1) n (subst (λ (q : F). IsFromFnResultFrom g q ys (i + 1) n) called.0 h.4) k d (omega arith) (omega arith))
      (cases_eq k i)

  pub each_made : (ys : List B) (n : ℕ) → IsFromFnResult g f ys n → (k : ℕ) (d : B) → k < n → P k (get_or ys k d)
  each_made ys n h k d l = from ys 0 n h.each k d (omega arith) (omega arith)
