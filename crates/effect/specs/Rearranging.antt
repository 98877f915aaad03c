-- Lists in another order.
use Rattle.std.specs.Prelude.{List, [], ◌∷◌}

-- the same elements, each as often, in some order
pub data Rearranged {X : Type 0} : List X → List X → Type 0 where
  none : Rearranged [] []
  keep : {x : X} {xs ys : List X} → Rearranged xs ys → Rearranged (x ∷ xs) (x ∷ ys)
  swap : {x y : X} {xs : List X} → Rearranged (x ∷ y ∷ xs) (y ∷ x ∷ xs)
  both : {xs ys zs : List X} → Rearranged xs ys → Rearranged ys zs → Rearranged xs zs
