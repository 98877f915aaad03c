-- What a rearrangement keeps.
use Rattle.std.proofs.Common.{◌≡◌, suc, ◌+◌, List, [], ◌∷◌, map, length, refl, ap, ◌∙◌, arith}
use Rattle.std.specs.List.{AllByRecursion}
use Rattle.effect.specs.Laws.{Operations}
use Rattle.effect.specs.Rearranging.{Rearranged, none, keep, swap, both}
use Rattle.effect.specs.Sums.{reaches}

pub unchanged : {X : Type 0} (xs : List X) → Rearranged xs xs
unchanged [] = none
unchanged (x ∷ xs) = keep (unchanged xs)

pub turned : {X : Type 0} {xs ys : List X} → Rearranged xs ys → Rearranged ys xs
turned none = none
turned (keep r) = keep (turned r)
turned swap = swap
turned (both r s) = both (turned s) (turned r)

pub mapped : {X Y : Type 0} (f : X → Y) {xs ys : List X} → Rearranged xs ys → Rearranged (map f xs) (map f ys)
mapped f none = none
mapped f (keep r) = keep (mapped f r)
mapped f swap = swap
mapped f (both r s) = both (mapped f r) (mapped f s)

pub length_rearranged : {X : Type 0} {xs ys : List X} → Rearranged xs ys → length xs ≡ length ys
length_rearranged none = refl
length_rearranged (keep r) = ap suc (length_rearranged r)
length_rearranged swap = refl
length_rearranged (both r s) = length_rearranged r ∙ length_rearranged s

pub all_rearranged : {X : Type 0} (P : X → Type 0) {xs ys : List X} → Rearranged xs ys → AllByRecursion P xs → AllByRecursion P ys
all_rearranged P none h = h
all_rearranged P (keep r) h = (h.0, all_rearranged P r h.1)
all_rearranged P swap h = (h.1.0, (h.0, h.1.1))
all_rearranged P (both r s) h = all_rearranged P s (all_rearranged P r h)

pub reaches_rearranged : {V : Type 0} (e : Operations V) {xs ys : List V} → Rearranged xs ys → reaches e xs ≡ reaches e ys
reaches_rearranged e none = refl
reaches_rearranged e (keep {x = x} r) = ap (λ n. e.reach x + n) (reaches_rearranged e r)
reaches_rearranged e swap = omega arith
reaches_rearranged e (both r s) = reaches_rearranged e r ∙ reaches_rearranged e s
