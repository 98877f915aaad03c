-- Each two of a list, where an element is added, replaced or removed.
-- Assumes nothing.
use Rattle.std.proofs.Common.{List, [], ◌∷◌, ◌++◌}
use Rattle.std.specs.List.{AllByRecursion}
use Rattle.std.proofs.ByRecursion.{All-push, All-append}
use Rattle.combination.specs.Lists.{EachTwo}
use Rattle.sheet.proofs.Lists.{all_front, all_back, all_swap}

module _ {X : Type 0} (R : X → X → Type 0) where
  pub each_two_push : (xs : List X) (x : X) → AllByRecursion (λ y. R y x) xs → EachTwo R xs → EachTwo R (xs ++ x ∷ [])
  each_two_push [] x each h = (tt, tt)
  each_two_push (y ∷ xs) x each h = (All-push (R y) xs x h.0 each.0, each_two_push xs x each.1 h.1)

  pub each_two_swap : (front : List X) (old new : X) (back : List X) → AllByRecursion (λ y. R y new) front → AllByRecursion (R new) back → EachTwo R (front ++ old ∷ back) → EachTwo R (front ++ new ∷ back)
  each_two_swap [] old new back before after h = (after, h.1)
  each_two_swap (y ∷ front) old new back before after h =
      (all_swap (R y) front old new back before.0 h.0, each_two_swap front old new back before.1 after h.1)

  pub each_two_drop : (front : List X) (old : X) (back : List X) → EachTwo R (front ++ old ∷ back) → EachTwo R (front ++ back)
  each_two_drop [] old back h = h.1
  each_two_drop (y ∷ front) old back h =
      (All-append (R y) front back (all_front (R y) front old back h.0) (all_back (R y) front old back h.0), each_two_drop front old back h.1)
