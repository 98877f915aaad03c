-- The larger of two values by their effects.
use Rattle.std.specs.Prelude.{◌≡◌, ◌⊎◌, Some, None, Option}
use Rattle.effect.specs.Laws.{Operations, AtMost}

-- r is b where there is no a, a where there is no b, and else one of the two whose effect is not less than the other's; R says what the effect of each may be
abbrev pub LargerBy : {V T : Type 0} → Operations V → (T → V → Type 0) → Option T → Option T → Option T → Type 0
LargerBy e R a None r = r ≡ a
LargerBy e R None (Some q) r = r ≡ Some q
LargerBy {V} e R (Some p) (Some q) r = (v : V) × (w : V) × R p v × R q w × (((r ≡ Some p) × AtMost e w v) ⊎ ((r ≡ Some q) × AtMost e v w))

module _ {V T X : Type 0} (e : Operations V) (value : T → V) (of : X → V) where
  -- x comes to no more than what o holds
  abbrev pub Tops : Option T → X → Type 0
  Tops None x = ⊥
  Tops (Some t) x = AtMost e (of x) (value t)

  -- r is a or b, and no less than either
  pub record NoLess (a b r : Option T) : Type 0 where
    pub either : (r ≡ a) ⊎ (r ≡ b)
    pub left : (x : X) → Tops a x → Tops r x
    pub right : (x : X) → Tops b x → Tops r x
