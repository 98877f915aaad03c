-- The loads of two equal storeys.
-- Assumes nothing.
use Rattle.std.proofs.Common.{◌≡◌, ℕ, ◌+◌, ◌*◌, ◌≤◌, List, Some, Option, Ok, Err, Result, refl, ap, ◌∙◌, lit≤}
use Rattle.refusals.specs.declared.Refusal.{Refusal}
use Rattle.reduction.specs.Factor.{factor_of, first}
use Rattle.column.specs.Answer.{SectionAnswer, Has}
use Rattle.column.specs.Example.{TwoStoreys}
use Rattle.column.specs.Loads.{full_load, reduced_load, full_of, reduced_of}
use Rattle.column.specs.declared.storeys.Storey.{Storey}

factor_1 : factor_of 1 3600 1 ≡ 7000
unfolding factor_of first
factor_1 = refl

factor_2 : factor_of 1 3600 2 ≡ 6122
unfolding factor_of first
factor_2 = refl

full : (x : Storey) → Has 1 3600 1500 x → full_of (Some x) ≡ 7020000000000
full x h = rw (h.same_load, h.same_area) refl

reduced : (n f : ℕ) (x : Storey) → factor_of 1 3600 n ≡ f → Has 1 3600 1500 x → reduced_of n (Some x) ≡ 702000000 * f
reduced n f x e h = rw (h.same_class, h.same_load, h.same_area, e) refl

section : (s full reduced : ℕ) (xs : List (Option Storey)) (r : Result (ℕ × ℕ) Refusal)
    → full_load s xs ≡ full → reduced_load s xs ≡ reduced → (1 ≤ s) × (s ≤ 40) → SectionAnswer s xs r → r ≡ Ok (full, reduced)
section s full reduced xs (Ok (f, g)) p q numbered (_, h) =
    ap (λ m. Ok (m, g)) (h.full_sum ∙ p) ∙ ap (λ n. Ok (full, n)) (h.reduced_sum ∙ q)
section s full reduced xs (Err x) p q numbered (d, out) = absurd (out numbered)

module _ (xs : List (Option Storey)) (t : TwoStoreys xs) (r : Result (ℕ × ℕ) Refusal) where
  pub below_1 : SectionAnswer 1 xs r → r ≡ Ok (7020000000000, 4914000000000)
  below_1 =
      section 1 7020000000000 4914000000000 xs r (ap (full_load 1) t.column ∙ ap (λ a. 0 + a) (full t.top t.top_has))
      (ap (reduced_load 1) t.column ∙ ap (λ a. 0 + a) (reduced 1 7000 t.top factor_1 t.top_has)) (lit≤ tt, lit≤ tt)

  pub below_2 : SectionAnswer 2 xs r → r ≡ Ok (14040000000000, 8595288000000)
  below_2 =
      let f : full_load 2 xs ≡ 14040000000000 =
      ap (full_load 2) t.column ∙ ap (λ a. 0 + a + full_of (Some t.lower)) (full t.top t.top_has) ∙ ap (λ a. 7020000000000 + a) (full t.lower t.lower_has) in
      let g : reduced_load 2 xs ≡ 8595288000000 =
      ap (reduced_load 2) t.column ∙ ap (λ a. 0 + a + reduced_of 2 (Some t.lower)) (reduced 2 6122 t.top factor_2 t.top_has)
      ∙ ap (λ a. 4297644000000 + a) (reduced 2 6122 t.lower factor_2 t.lower_has) in
      section 2 14040000000000 8595288000000 xs r f g (lit≤ tt, lit≤ tt)
