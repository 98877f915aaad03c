-- What the inner functions compute is what the definitions say.
use Rattle.std.proofs.Common.{◌≡◌, ℕ, ◌-◌, ◌*◌, ◌^◌, ◌≤◌, min, Bool, true, false, cond, Some, None, Option, sym, ap, ◌∙◌, subst, ap₂, mul_assoc, mul-le-mul, arith, lit≤}
use Rattle.effect.specs.Laws.{Operations}
use Rattle.effect.specs.Sums.{Counted}
use Rattle.loads.specs.declared.records.Record.{Record}
use Rattle.combination.specs.Choices.{is_lower, is_taken, role}
use Rattle.combination.specs.Worst.{factor, permanent, temporary, special}
use Rattle.combination.specs.declared.picks.Pick.{Pick}
use Rattle.combination.proofs.Contributions.{chosen_most, multiple_within}
use Rattle.combination.proofs.Ranges.{InRange}

-- a product that stays within 64 bits
pub weighted_is : {E : Type 0} (o : Operations E) (e : E) (p f w : ℕ) (taken : Bool) (given : Option ℕ) (r : E) → p ≡ min (f * w) (2 ^ 64 - 1) → given ≡ cond taken (Some p) None → Counted o e given r → f ≤ 200 → w ≤ 1000000 → o.reach e ≤ 1000000000 → r ≡ cond taken (o.times (f * w) e) o.nil
weighted_is o e p f w true given r is so c hf hw he =
    let most : f * w ≤ 200 * 1000000 = mul-le-mul hf hw in
    let whole : p ≡ f * w = omega arith in
    c.if_taken p so (multiple_within p (o.reach e) (omega arith) he) ∙ ap (λ n. o.times n e) whole
weighted_is o e p f w false given r is so c hf hw he = (c.if_not so).0

-- what `weighted` promises
abbrev Weighted : {E : Type 0} → Operations E → E → (factor weight : ℕ) → Bool → E → Type 0
Weighted o e f w t r = f ≤ 200 → w ≤ 1000000 → o.reach e ≤ 1000000000 → r ≡ cond t (o.times (f * w) e) o.nil

module _ {E : Type 0} (o : Operations E) (p : Pick) (x : Record E) where
  pub permanent_is : (f : ℕ) (r : E) → f ≡ cond (is_lower p) x.load.lower x.load.upper → Weighted o x.load.effect f 1000000 true r → InRange o x → r ≡ permanent o p x
  permanent_is f r is w h =
      let few : f ≤ 200 = subst (λ n. n ≤ 200) (sym is) (chosen_most (is_lower p) h.lower h.upper) in
      w few (lit≤ tt) h.reach ∙ ap (λ n. o.times (n * 1000000) x.load.effect) is

  pub temporary_is : (by : ℕ → ℕ) (i percent red weight : ℕ) (t : Bool) (r : E) → i ≡ role p → percent ≡ by i → red ≡ factor x → red ≤ 10000 → by (role p) ≤ 100 → weight ≡ min (red * percent) (2 ^ 64 - 1) → t ≡ is_taken p
      → Weighted o x.load.effect x.load.upper weight t r → InRange o x → r ≡ temporary o by p x
  temporary_is by i percent red weight t r place at is few part heavy taken w h =
      let by-p : percent ≡ by (role p) = at ∙ ap by place in
      let small : percent ≤ 100 = omega arith in
      let most : red * percent ≤ 10000 * 100 = mul-le-mul few small in
      let exact : weight ≡ red * percent = omega arith in
      let product : x.load.upper * weight ≡ x.load.upper * factor x * by (role p) = ap (λ n. x.load.upper * n) (exact ∙ ap₂ ◌*◌ is by-p) ∙ sym (mul_assoc x.load.upper (factor x) (by (role p))) in
      w h.upper (omega arith) h.reach ∙ ap₂ (λ b n. cond b (o.times n x.load.effect) o.nil) taken product

  pub special_is : (t : Bool) (r : E) → t ≡ is_taken p → Weighted o x.load.effect x.load.upper 1000000 t r → InRange o x → r ≡ special o p x
  special_is t r taken w h = w h.upper (lit≤ tt) h.reach ∙ ap (λ b. cond b (o.times (x.load.upper * 1000000) x.load.effect) o.nil) taken
