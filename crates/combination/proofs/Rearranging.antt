-- What a rearrangement keeps.
use Rattle.std.proofs.Common.{◌≡◌, suc, ◌+◌, Bool, cond, List, [], ◌∷◌, length, refl, ap, ◌∙◌, arith}
use Rattle.effect.specs.Rearranging.{Rearranged, none, keep, swap, both}
use Rattle.effect.proofs.Rearranging.{all_rearranged}
use Rattle.combination.specs.Lists.{EachTwo, count}
use Rattle.combination.specs.Choices.{lines}
use Rattle.combination.specs.declared.picks.Pick.{Pick}
use Rattle.loads.specs.declared.records.Record.{Record}

pub count_rearranged : {X : Type 0} (p : X → Bool) {xs ys : List X} → Rearranged xs ys → count p xs ≡ count p ys
count_rearranged p none = refl
count_rearranged p (keep {x = x} r) = ap (λ n. cond (p x) 1 0 + n) (count_rearranged p r)
count_rearranged p swap = omega arith
count_rearranged p (both r s) = count_rearranged p r ∙ count_rearranged p s

pub each_two_rearranged : {X : Type 0} (R : X → X → Type 0) → ((x y : X) → R x y → R y x) → {xs ys : List X} → Rearranged xs ys → EachTwo R xs → EachTwo R ys
each_two_rearranged R back none h = h
each_two_rearranged R back (keep {x = x} r) h = (all_rearranged (R x) r h.0, each_two_rearranged R back r h.1)
each_two_rearranged R back (swap {x = x} {y = y}) h = ((back x y h.0.0, h.1.0), (h.0.1, h.1.1))
each_two_rearranged R back (both r s) h = each_two_rearranged R back s (each_two_rearranged R back r h)

-- the picks go with their records
pub carried : {E : Type 0} {rs ss : List (Record E)} → Rearranged rs ss → (ps : List Pick) → length ps ≡ length rs → (qs : List Pick) × (length qs ≡ length ss) × Rearranged (lines rs ps) (lines ss qs)
carried none ps e = (ps, e, none)
carried (keep r) [] e = absurd (omega arith)
carried (keep r) (p ∷ ps) e = let (qs, l, s) = carried r ps (omega arith) in (p ∷ qs, ap suc l, keep s)
carried swap [] e = absurd (omega arith)
carried swap (p ∷ []) e = absurd (omega arith)
carried swap (p ∷ q ∷ ps) e = (q ∷ p ∷ ps, e, swap)
carried (both r s) ps e =
    let (qs, l, t) = carried r ps e in
    let (os, m, u) = carried s qs l in
    (os, m, both t u)
