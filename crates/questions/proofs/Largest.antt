-- The larger of two is no less than either.
use Rattle.std.proofs.Common.{◌≡◌, Some, None, Option, sym, refl, subst, inl, inr}
use Rattle.effect.specs.Laws.{Operations, Laws, AtMost}
use Rattle.effect.proofs.AtMost.{at_most_trans}
use Rattle.questions.specs.Larger.{LargerBy, Tops, NoLess}

module _ {V T : Type 0} (e : Operations V) (R : T → V → Type 0) where
  -- where there are two
  pub first_larger : (a b : Option T) (p q : T) (v w : V) → a ≡ Some p → b ≡ Some q → R p v → R q w → AtMost e w v → LargerBy e R a b a
  first_larger a b p q v w ea eb vp wq h = subst (λ (o : Option T). LargerBy e R o b o) (sym ea) (subst (λ (o : Option T). LargerBy e R (Some p) o (Some p)) (sym eb) (v, w, vp, wq, inl (refl, h)))

  pub second_larger : (a b : Option T) (p q : T) (v w : V) → a ≡ Some p → b ≡ Some q → R p v → R q w → AtMost e v w → LargerBy e R a b b
  second_larger a b p q v w ea eb vp wq h = subst (λ (o : Option T). LargerBy e R o b b) (sym ea) (subst (λ (o : Option T). LargerBy e R (Some p) o o) (sym eb) (v, w, vp, wq, inr (refl, h)))

module _ {V T X : Type 0} {e : Operations V} (laws : Laws e) (value : T → V) (of : X → V) (R : T → V → Type 0) where
  over : ((t : T) (v : V) → R t v → v ≡ value t) → (p q : T) (v w : V) → R p v → R q w → AtMost e w v → AtMost e (value q) (value p)
  over known p q v w vp wq h = subst (λ (x : V). AtMost e x (value p)) (known q w wq) (subst (AtMost e w) (known p v vp) h)

  pub no_less : (a b r : Option T) → LargerBy e R a b r → ((t : T) (v : V) → R t v → v ≡ value t) → NoLess e value of a b r
  no_less a None r h known = record { either = inl h; left = λ x t. subst (λ (o : Option T). Tops e value of o x) (sym h) t; right = λ x t. absurd t }
  no_less None (Some q) r h known = record { either = inr h; left = λ x t. absurd t; right = λ x t. subst (λ (o : Option T). Tops e value of o x) (sym h) t }
  no_less (Some p) (Some q) r (v, w, vp, wq, inl s) known = record {
    either = inl s.0;
    left = λ x t. subst (λ (o : Option T). Tops e value of o x) (sym s.0) t;
    right = λ x t. subst (λ (o : Option T). Tops e value of o x) (sym s.0) (at_most_trans laws (of x) (value q) (value p) t (over known p q v w vp wq s.1));
  }
  no_less (Some p) (Some q) r (v, w, vp, wq, inr s) known = record {
    either = inr s.0;
    left = λ x t. subst (λ (o : Option T). Tops e value of o x) (sym s.0) (at_most_trans laws (of x) (value p) (value q) t (over known q p w v wq vp s.1));
    right = λ x t. subst (λ (o : Option T). Tops e value of o x) (sym s.0) t;
  }
