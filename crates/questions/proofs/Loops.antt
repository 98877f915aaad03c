-- The pairs of numbers, one after the other.
use Rattle.std.proofs.Common.{◌≡◌, ℕ, ◌+◌, ◌<◌, ◌≤◌, true, false, ◌≢◌, List, None, Option, sym, subst, inl, inr, ⊎_elim, arith}
use Rattle.std.proofs.lemmas.Bool.{cases_eq, cases_Bool}
use Rattle.effect.specs.Laws.{Operations}
use Rattle.loads.specs.declared.kinds.Kind.TheVariants.{LongTerm, ShortTerm}
use Rattle.loads.specs.declared.records.Record.{Record}
use Rattle.norm.specs.Percentages.{Percentages, Ranged, inside}
use Rattle.norm.specs.declared.terms.Term.{Term}
use Rattle.combination.specs.Choices.{lines, taken}
use Rattle.combination.specs.Worst.{comes_to}
use Rattle.combination.specs.declared.questions.Question.{Question}
use Rattle.questions.specs.Engine.{Shown, Covers, Just, Since, Larger, Limits}
use Rattle.questions.specs.declared.pair.Candidate.{Candidate}

-- inside its ranges and outside them, a percentage is at most 100
pub at_most_100 : (p : Percentages) → Ranged p → (t : Term) (i nl nt : ℕ) → p t i nl nt ≤ 100
at_most_100 p ranged t i nl nt = ⊎_elim
    (λ (h : inside t i nl nt ≡ true). (ranged t i nl nt).0 h)
    (λ (h : inside t i nl nt ≡ false). omega (arith, (ranged t i nl nt).1 h))
    (cases_Bool (inside t i nl nt))

module _ {V : Type 0} (e : Operations V) (norm : Percentages) (q : Question) (rs : List (Record V)) where
  -- before the first pair
  pub covers_none : (longs : ℕ) → Limits q rs LongTerm longs → Covers e norm q rs (Since (longs + 1) 0) None
  covers_none longs limit = record {
    shown = tt;
    most = λ qs a b. absurd (⊎_elim
        (λ (h : longs + 1 < taken LongTerm (lines rs qs)). omega (arith, limit qs a))
        (λ (h : (taken LongTerm (lines rs qs) ≡ longs + 1) × (0 ≤ taken ShortTerm (lines rs qs))). omega (arith, limit qs a, h.0))
        b);
  }

  -- one pair more
  pub covers_more : (nl nt : ℕ) (a b r : Option (Candidate V)) → Covers e norm q rs (Since nl (nt + 1)) a → Covers e norm q rs (Just nl nt) b → Larger e a b r → Covers e norm q rs (Since nl nt) r
  covers_more nl nt a b r ca cb lg = record {
    shown = ⊎_elim (λ (h : r ≡ a). subst (Shown e norm q rs) (sym h) ca.shown) (λ (h : r ≡ b). subst (Shown e norm q rs) (sym h) cb.shown) lg.either;
    most = λ qs adm p.
        ⊎_elim
        (λ (h : nl < taken LongTerm (lines rs qs)). lg.left (comes_to e norm (lines rs qs)) (ca.most qs adm (inl h)))
        (λ (h : (taken LongTerm (lines rs qs) ≡ nl) × (nt ≤ taken ShortTerm (lines rs qs))). ⊎_elim
        (λ (same : taken ShortTerm (lines rs qs) ≡ nt). lg.right (comes_to e norm (lines rs qs)) (cb.most qs adm (h.0, same)))
        (λ (ne : taken ShortTerm (lines rs qs) ≢ nt). lg.left (comes_to e norm (lines rs qs)) (ca.most qs adm (inr (h.0, omega (arith, h.1)))))
        (cases_eq (taken ShortTerm (lines rs qs)) nt))
        p;
  }
