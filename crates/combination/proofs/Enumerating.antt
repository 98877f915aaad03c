-- All lists of picks that fit records.
use Rattle.std.proofs.Common.{◌≡◌, suc, ◌⊎◌, List, [], ◌∷◌, ◌++◌, map, length, sym, refl, ap, subst, inl, inr, arith}
use Rattle.std.specs.List.{AllByRecursion}
use Rattle.combination.specs.Lists.{Among}
use Rattle.combination.specs.Choices.{lines, picks_for, Fits}
use Rattle.combination.specs.declared.picks.Pick.{Pick}
use Rattle.loads.specs.declared.records.Record.{Record}

among_left : {X : Type 0} (xs ys : List X) (x : X) → Among xs x → Among (xs ++ ys) x
among_left [] ys x m = absurd m
among_left (y ∷ xs) ys x (inl e) = inl e
among_left (y ∷ xs) ys x (inr m) = inr (among_left xs ys x m)

among_right : {X : Type 0} (xs ys : List X) (x : X) → Among ys x → Among (xs ++ ys) x
among_right [] ys x m = m
among_right (y ∷ xs) ys x m = inr (among_right xs ys x m)

among_cases : {X : Type 0} (xs ys : List X) (x : X) → Among (xs ++ ys) x → Among xs x ⊎ Among ys x
among_cases [] ys x m = inr m
among_cases (y ∷ xs) ys x (inl e) = inl (inl e)
among_cases (y ∷ xs) ys x (inr m) = elim (among_cases xs ys x m) [ inl k ↦ inl (inr k) | inr k ↦ inr k ]

among_map : {X Y : Type 0} (f : X → Y) (xs : List X) (x : X) → Among xs x → Among (map f xs) (f x)
among_map f [] x m = absurd m
among_map f (y ∷ xs) x (inl e) = inl (ap f e)
among_map f (y ∷ xs) x (inr m) = inr (among_map f xs x m)

among_map_from : {X Y : Type 0} (f : X → Y) (xs : List X) (y : Y) → Among (map f xs) y → (x : X) × Among xs x × (y ≡ f x)
among_map_from f [] y m = absurd m
among_map_from f (z ∷ xs) y (inl e) = (z, inl refl, e)
among_map_from f (z ∷ xs) y (inr m) = let (x, k, e) = among_map_from f xs y m in (x, inr k, e)

-- each pick before each list
abbrev prefixed : List Pick → List (List Pick) → List (List Pick)
prefixed [] cs = []
prefixed (x ∷ xs) cs = map (λ ps. x ∷ ps) cs ++ prefixed xs cs

abbrev pub choices : {E : Type 0} → List (Record E) → List (List Pick)
choices [] = [] ∷ []
choices (r ∷ rs) = prefixed (picks_for r.kind) (choices rs)

among_prefixed : (xs : List Pick) (cs : List (List Pick)) (x : Pick) (ps : List Pick) → Among xs x → Among cs ps → Among (prefixed xs cs) (x ∷ ps)
among_prefixed [] cs x ps m k = absurd m
among_prefixed (y ∷ xs) cs x ps (inl e) k = among_left (map (λ qs. y ∷ qs) cs) (prefixed xs cs) (x ∷ ps) (subst (λ z. Among (map (λ qs. y ∷ qs) cs) (z ∷ ps)) (sym e) (among_map (λ qs. y ∷ qs) cs ps k))
among_prefixed (y ∷ xs) cs x ps (inr m) k = among_right (map (λ qs. y ∷ qs) cs) (prefixed xs cs) (x ∷ ps) (among_prefixed xs cs x ps m k)

from_prefixed : (xs : List Pick) (cs : List (List Pick)) (ps : List Pick) → Among (prefixed xs cs) ps → (x : Pick) × (qs : List Pick) × Among xs x × Among cs qs × (ps ≡ x ∷ qs)
from_prefixed [] cs ps m = absurd m
from_prefixed (y ∷ xs) cs ps m = go (among_cases (map (λ qs. y ∷ qs) cs) (prefixed xs cs) ps m) (from_prefixed xs cs ps)
  where
    go : Among (map (λ qs. y ∷ qs) cs) ps ⊎ Among (prefixed xs cs) ps → (Among (prefixed xs cs) ps → (x : Pick) × (qs : List Pick) × Among xs x × Among cs qs × (ps ≡ x ∷ qs)) → (x : Pick) × (qs : List Pick) × Among (y ∷ xs) x × Among cs qs × (ps ≡ x ∷ qs)
    go (inl k) rec = let (qs, j, e) = among_map_from (λ qs. y ∷ qs) cs ps k in (y, qs, inl refl, j, e)
    go (inr k) rec = let (x, qs, j, l, e) = rec k in (x, qs, inr j, l, e)

-- what fits the records is among its choices, and the other way round
pub among_choices : {E : Type 0} (records : List (Record E)) (ps : List Pick) → length ps ≡ length records → AllByRecursion Fits (lines records ps) → Among (choices records) ps
among_choices [] [] e f = inl refl
among_choices [] (p ∷ ps) e f = absurd (omega arith)
among_choices (r ∷ rs) [] e f = absurd (omega arith)
among_choices (r ∷ rs) (p ∷ ps) e f = among_prefixed (picks_for r.kind) (choices rs) p ps f.0 (among_choices rs ps (omega arith) f.1)

pub from_choices : {E : Type 0} (records : List (Record E)) (ps : List Pick) → Among (choices records) ps → (length ps ≡ length records) × AllByRecursion Fits (lines records ps)
from_choices [] ps (inl e) = (ap length e, tt)
from_choices [] ps (inr m) = absurd m
from_choices (r ∷ rs) ps m =
    let (x, qs, fits, k, e) = from_prefixed (picks_for r.kind) (choices rs) ps m in
    let (l, f) = from_choices rs qs k in
    subst (λ os. (length os ≡ suc (length rs)) × AllByRecursion Fits (lines (r ∷ rs) os)) (sym e) (ap suc l, (fits, f))
