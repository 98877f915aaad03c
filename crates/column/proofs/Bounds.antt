-- How large the load of one storey is.
-- Assumes nothing.
use Rattle.std.proofs.Common.{◌≡◌, ℕ, ◌*◌, ◌≤◌, ltb, sym, subst, mul-le-mul, lit≤}
use Rattle.std.proofs.lemmas.Bool.{cond_both}
use Rattle.column.specs.Loads.{factor_of_load}
use Rattle.column.specs.declared.storeys.Storey.{Storey}

load_factor_bound : (q : ℕ) → factor_of_load q ≤ 130
load_factor_bound q = cond_both (ltb q 2000) 130 120 (λ n. n ≤ 130) (λ _. lit≤ tt) (λ _. lit≤ tt)

pub design_bound : (x : Storey) (l : ℕ) → l ≡ factor_of_load x.load → x.load * x.area * l ≤ 6500000000000
design_bound x l e =
    mul-le-mul {n₂ = 50000000000} (mul-le-mul {n₂ = 50000} x.load_high x.area_high)
    (subst (λ n. n ≤ 130) (sym e) (load_factor_bound x.load))
