-- Sheets with the same design loads answer the questions alike.
-- Assumes nothing.
use Rattle.std.proofs.Common.{◌≡◌, ℕ, List, [], ◌∷◌, map, sym, ◌∙◌}
use Rattle.std.specs.List.{AllByRecursion}
use Rattle.effect.specs.Laws.{Operations, Laws}
use Rattle.effect.proofs.Rearranging.{turned, all_rearranged}
use Rattle.norm.specs.Percentages.{Ranged}
use Rattle.loads.specs.declared.kinds.Kind.TheVariants.{Special}
use Rattle.loads.specs.declared.records.Record.{Record}
use Rattle.combination.specs.Loads.{Partners, SameDesignLoads}
use Rattle.combination.specs.Sound.{Sound}
use Rattle.combination.specs.Worst.{NoSpecial}
use Rattle.combination.specs.declared.questions.Question.{Question}
use Rattle.combination.specs.declared.questions.Question.TheVariants.{Basic, WithSpecial}
use Rattle.combination.proofs.Invariance.{same_worst}
use Rattle.history.specs.History.{NormAnswers, asked, Unanswerable, Step}
use Rattle.history.specs.Law.{SameAnswer, Alike}
use Rattle.history.specs.declared.calls.Call.TheVariants.{Ask}
use Rattle.history.specs.Outcomes.{Outcome}
use Rattle.std.specs.Prelude.{Ok, Err, Some, None}
use Rattle.history.proofs.Histories.{good_sound, history_good}

module _ {E : Type 0} (o : Operations E) where
  -- partners have one kind
  moved : (xs : List (Record E × Record E)) → AllByRecursion (λ x. Partners o x.0 x.1) xs → NoSpecial (map (λ x. x.0) xs) → NoSpecial (map (λ x. x.1) xs)
  moved [] h n = tt
  moved (x ∷ xs) h n = (λ e. n.0 (h.0.kinds ∙ e), moved xs h.1 n.1)

  moved_back : (xs : List (Record E × Record E)) → AllByRecursion (λ x. Partners o x.0 x.1) xs → NoSpecial (map (λ x. x.1) xs) → NoSpecial (map (λ x. x.0) xs)
  moved_back [] h n = tt
  moved_back (x ∷ xs) h n = (λ e. n.0 (sym h.0.kinds ∙ e), moved_back xs h.1 n.1)

  there : (q : Question) (b d : List (Record E)) → SameDesignLoads o b d → Unanswerable q b → Unanswerable q d
  there Basic b d same none = none
  there WithSpecial b d same none =
      all_rearranged (λ r. r.kind ≡ Special → ⊥) same.seconds (moved same.pairs same.partners (all_rearranged (λ r. r.kind ≡ Special → ⊥) (turned same.firsts) none))

  back : (q : Question) (b d : List (Record E)) → SameDesignLoads o b d → Unanswerable q d → Unanswerable q b
  back Basic b d same none = none
  back WithSpecial b d same none =
      all_rearranged (λ r. r.kind ≡ Special → ⊥) same.firsts (moved_back same.pairs same.partners (all_rearranged (λ r. r.kind ≡ Special → ⊥) (turned same.seconds) none))

module _ {E : Type 0} (o : Operations E) (laws : Laws o) (norm : NormAnswers) (q : Question) (ranged : Ranged (asked norm q)) where
  answers_alike : (p s : ℕ) (b d : List (Record E)) → Sound o b → Sound o d → SameDesignLoads o b d → (out out' : Outcome E) (b' d' : List (Record E)) → Step o norm p b (Ask q) out b' → Step o norm s d (Ask q) out' d' → SameAnswer out out'
  answers_alike p s b d sb sd same (Ok None) out' b' d' h k = absurd h
  answers_alike p s b d sb sd same (Err e) (Ok None) b' d' h k = absurd k
  answers_alike p s b d sb sd same (Err e) (Err f) b' d' h k = h.0 ∙ sym k.0
  answers_alike p s b d sb sd same (Err e) (Ok (Some a)) b' d' h k = absurd (k.0 (there o q b d same h.1))
  answers_alike p s b d sb sd same (Ok (Some a)) (Ok None) b' d' h k = absurd k
  answers_alike p s b d sb sd same (Ok (Some a)) (Err f) b' d' h k = absurd (h.0 (back o q b d same k.1))
  answers_alike p s b d sb sd same (Ok (Some a)) (Ok (Some e)) b' d' h k = (same_worst o laws (asked norm q) ranged q b d sb sd same).1 _ _ _ _ h.1 k.1

  pub alike_anywhere : (p : ℕ) (b : List (Record E)) → Sound o b → (out : Outcome E) (b' : List (Record E)) → Step o norm p b (Ask q) out b' → Alike o norm b out q
  alike_anywhere p b sound out b' step s cs outs d history same out' d' step' =
      answers_alike p s b d sound (good_sound o s d history.0 (history_good o norm s cs outs d history)) same out out' b' d' step step'
