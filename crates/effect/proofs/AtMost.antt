-- What the laws of an effect type give of its order.
use Rattle.std.proofs.Common.{◌≡◌, ℕ, ◌⊎◌, Ordering, Less, Equal, Greater, sym, refl, ap, ◌∙◌, inl, inr, ⊎_elim, arith}
use Rattle.std.specs.Ordering.{ordering_reverse, is_le}
use Rattle.effect.specs.Laws.{Operations, Laws, Under, AtMost}
use Rattle.effect.specs.Orders.{TotalOrder}

less_equal : Less ≡ Equal → ⊥
less_equal h = let z : ◌≡◌ {A = ℕ} 0 1 = cc in omega arith

pub by_order : {G : Type 0} (o : Ordering) → (o ≡ Less → G) → (o ≡ Equal → G) → (o ≡ Greater → G) → G
by_order Less l e g = l refl
by_order Equal l e g = e refl
by_order Greater l e g = g refl

module _ {V : Type 0} {e : Operations V} (laws : Laws e) where
  pub turn : (a b : V) → e.order a b ≡ Greater → Under e b a
  turn a b h = laws.order_turned a b ∙ ap ordering_reverse h

  pub under_irrefl : (a : V) → Under e a a → ⊥
  under_irrefl a h = less_equal (sym h ∙ laws.order_same a)

  -- cases on two values
  pub cases : {G : Type 0} (a b : V) → (Under e a b → G) → (a ≡ b → G) → (Under e b a → G) → G
  cases a b l s g = by_order (e.order a b) l (λ h. s (laws.order_equal a b h)) (λ h. g (turn a b h))

  pub at_most_same : (a b : V) → a ≡ b → AtMost e a b
  at_most_same a b h = ap is_le (ap (e.order a) (sym h) ∙ laws.order_same a)

  pub at_most_under : (a b : V) → Under e a b → AtMost e a b
  at_most_under a b h = ap is_le h

  pub at_most_cases : (a b : V) → AtMost e a b → Under e a b ⊎ (a ≡ b)
  at_most_cases a b h = by_order (e.order a b) inl (λ s. inr (laws.order_equal a b s)) (λ g. let z : ◌≡◌ {A = ℕ} 0 1 = cc (ap is_le g) in absurd (omega arith))

  pub at_most_trans : (a b c : V) → AtMost e a b → AtMost e b c → AtMost e a c
  at_most_trans a b c h k =
      ⊎_elim
      (λ l. ⊎_elim (λ m. at_most_under a c (laws.order_trans a b c l m)) (λ s. at_most_under a c (ap (e.order a) (sym s) ∙ l)) (at_most_cases b c k))
      (λ s. ap (λ (v : V). is_le (e.order v c)) s ∙ k)
      (at_most_cases a b h)

  pub at_most_antisym : (a b : V) → AtMost e a b → AtMost e b a → a ≡ b
  at_most_antisym a b h k =
      ⊎_elim
      (λ l. ⊎_elim (λ m. absurd (under_irrefl a (laws.order_trans a b a l m))) sym (at_most_cases b a k))
      (λ s. s)
      (at_most_cases a b h)

  pub at_most_or_under : (a b : V) → AtMost e a b ⊎ Under e b a
  at_most_or_under a b = cases a b (λ l. inl (at_most_under a b l)) (λ s. inl (at_most_same a b s)) inr

  pub at_most_total : TotalOrder (AtMost e)
  at_most_total = record {
    reflexive = λ a. at_most_same a a refl;
    antisymmetric = at_most_antisym;
    transitive = at_most_trans;
    total = λ a b. ⊎_elim inl (λ l. inr (at_most_under b a l)) (at_most_or_under a b);
  }

  pub not_under : (a b : V) → (Under e a b → ⊥) → AtMost e b a
  not_under a b n = cases a b (λ l. absurd (n l)) (λ s. at_most_same b a (sym s)) (λ l. at_most_under b a l)
