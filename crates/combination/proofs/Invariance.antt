-- The worst effect depends on the design loads alone.
use Rattle.std.proofs.Common.{◌≡◌, ◌↔◌, List, [], ◌∷◌, sym, ◌∙◌, subst}
use Rattle.std.proofs.ByRecursion.{All-weaker}
use Rattle.effect.specs.Laws.{Operations, Laws, AtMost}
use Rattle.effect.proofs.AtMost.{at_most_antisym}
use Rattle.combination.specs.Lists.{EachTwo}
use Rattle.combination.specs.Choices.{lines, Admissible}
use Rattle.combination.specs.Loads.{SameDesignLoads}
use Rattle.combination.specs.Worst.{comes_to, Worst}
use Rattle.norm.specs.Percentages.{Percentages, Ranged}
use Rattle.combination.specs.Existence.{Answerable}
use Rattle.combination.specs.Invariance.{SameWorst}
use Rattle.combination.proofs.Ranges.{AtMostWhole, Kept, kept, whole}
use Rattle.combination.proofs.Carrying.{transported}
use Rattle.combination.specs.declared.picks.Pick.{Pick}
use Rattle.combination.specs.declared.questions.Question.{Question}
use Rattle.loads.specs.declared.records.Record.{Record}

each_two_weaker : {X : Type 0} (R S : X → X → Type 0) → ((x y : X) → R x y → S x y) → (xs : List X) → EachTwo R xs → EachTwo S xs
each_two_weaker R S f [] h = tt
each_two_weaker R S f (x ∷ xs) h = (All-weaker (R x) (S x) (f x) xs h.0, each_two_weaker R S f xs h.1)

module _ {E : Type 0} (o : Operations E) (laws : Laws o) where
  module _ (norm : Percentages) (part : AtMostWhole norm) (q : Question) (b c : List (Record E)) (kb : Kept o b) (kc : Kept o c) (same : SameDesignLoads o b c) where
    there : (ps : List Pick) → Admissible q b ps → (qs : List Pick) × Admissible q c qs × (comes_to o norm (lines b ps) ≡ comes_to o norm (lines c qs))
    there = transported o laws norm part (λ x. x.0) (λ x. x.1) q b c kb kc same.pairs same.firsts same.seconds same.partners same.groups

    back : (ps : List Pick) → Admissible q c ps → (qs : List Pick) × Admissible q b qs × (comes_to o norm (lines c ps) ≡ comes_to o norm (lines b qs))
    back =
        transported o laws norm part (λ x. x.1) (λ x. x.0) q c b kc kb same.pairs same.seconds same.firsts
        (All-weaker _ _ (λ x h. record { kinds = sym h.kinds; loads = sym h.loads }) same.pairs same.partners)
        (each_two_weaker _ _ (λ x y h. (h.1, h.0)) same.pairs same.groups)

    equal_worst : (ps qs : List Pick) (e f : E) → Worst o norm q b ps e → Worst o norm q c qs f → e ≡ f
    equal_worst ps qs e f we wf =
        let (ps', hp, ep) = there ps we.admissible in
        let (qs', hq, eq) = back qs wf.admissible in
        at_most_antisym laws e f
        (subst (λ x. AtMost o x f) (sym ep ∙ we.reached) (wf.greatest ps' hp))
        (subst (λ x. AtMost o x e) (sym eq ∙ wf.reached) (we.greatest qs' hq))

    answers : Answerable q b ↔ Answerable q c
    answers = (λ a. let (qs, h, e) = there a.0 a.1 in (qs, h), λ a. let (qs, h, e) = back a.0 a.1 in (qs, h))

  pub same_worst : (norm : Percentages) → Ranged norm → SameWorst o norm
  same_worst norm ranged q b c sb sc same =
      let part = whole norm ranged in
      let kb = kept o b sb in
      let kc = kept o c sc in
      (answers norm part q b c kb kc same, equal_worst norm part q b c kb kc same)
