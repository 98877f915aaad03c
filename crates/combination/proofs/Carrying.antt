-- A choice is carried from one list of records to another with the same design loads.
use Rattle.std.proofs.Common.{◌≡◌, ℕ, ◌+◌, ◌<◌, ◌≤◌, Bool, cond, ◌&&◌, eqb, ◌↔◌, List, [], ◌∷◌, map, length, sym, refl, ap, ◌∙◌, subst, ap₂}
use lib.ListN.{length-map}
use Rattle.std.specs.List.{AllByRecursion}
use Rattle.effect.specs.Laws.{Operations, Laws}
use Rattle.combination.specs.Lists.{Among, EachTwo, count}
use Rattle.combination.specs.Choices.{Line, lines, picks_for, is_of_kind, is_taken, role, Fits, Apart, SharesGroup, Roles, Admissible}
use Rattle.combination.specs.Loads.{Partners}
use Rattle.combination.proofs.Ranges.{AtMostWhole, InRange, Kept}
use Rattle.combination.specs.Worst.{contribution, contributions, comes_to}
use Rattle.effect.specs.Sums.{total}
use Rattle.norm.specs.Percentages.{Percentages}
use Rattle.effect.specs.Rearranging.{Rearranged}
use Rattle.effect.proofs.Rearranging.{turned, mapped, length_rearranged, all_rearranged}
use Rattle.effect.proofs.Totals.{total_rearranged}
use Rattle.combination.proofs.Rearranging.{carried, count_rearranged, each_two_rearranged}
use Rattle.combination.proofs.Contributions.{same_contribution, within}
use Rattle.loads.specs.declared.kinds.Kind.{Kind}
use Rattle.loads.specs.declared.kinds.Kind.TheVariants.{LongTerm, ShortTerm, Special}
use Rattle.combination.specs.declared.picks.Pick.{Pick}
use Rattle.combination.specs.declared.questions.Question.{Question}
use Rattle.loads.specs.declared.records.Record.{Record}

-- how many lines pass a test of kind and pick
abbrev pub tally : {E : Type 0} → (Kind → Pick → Bool) → List (Line E) → ℕ
tally t ls = count (λ l. t l.0.kind l.1) ls

-- two lists of lines that differ in nothing that an answer rests on
record Alike {E : Type 0} (o : Operations E) (norm : Percentages) (ls ms : List (Line E)) : Type 0 where
  tallies : (t : Kind → Pick → Bool) → tally t ls ≡ tally t ms
  fitting : AllByRecursion Fits ls → AllByRecursion Fits ms
  groups : EachTwo Apart ls → EachTwo Apart ms
  sums : (nl nt : ℕ) → total o (contributions o norm nl nt ls) ≡ total o (contributions o norm nl nt ms)

module _ {E : Type 0} {o : Operations E} {norm : Percentages} where
  alike_trans : {ls ms ns : List (Line E)} → Alike o norm ls ms → Alike o norm ms ns → Alike o norm ls ns
  alike_trans a b = record {
    tallies = λ t. a.tallies t ∙ b.tallies t;
    fitting = λ h. b.fitting (a.fitting h);
    groups = λ h. b.groups (a.groups h);
    sums = λ nl nt. a.sums nl nt ∙ b.sums nl nt;
  }

  alike_roles : (k : Kind) {ls ms : List (Line E)} → Alike o norm ls ms → Roles k ls → Roles k ms
  alike_roles k a r =
      let all = a.tallies (λ j p. is_of_kind k j && is_taken p) in
      let first = a.tallies (λ j p. is_of_kind k j && eqb (role p) 1) in
      let next = a.tallies (λ j p. is_of_kind k j && eqb (role p) 2) in
      record {
        leading = λ h. sym first ∙ r.leading (subst (λ n. 0 < n) (sym all) h);
        second = λ h. sym next ∙ r.second (subst (λ n. 1 < n) (sym all) h);
        no_second = λ h. sym next ∙ r.no_second (subst (λ n. n ≤ 1) (sym all) h);
      }

  alike_admissible : (q : Question) (b c : List (Record E)) (ps qs : List Pick) → Alike o norm (lines b ps) (lines c qs) → length qs ≡ length c → Admissible q b ps → Admissible q c qs
  alike_admissible q b c ps qs a e h = record {
    parallel = e;
    fitting = a.fitting h.fitting;
    special = sym (a.tallies (λ j p. is_of_kind Special j && is_taken p)) ∙ h.special;
    long_roles = alike_roles LongTerm a h.long_roles;
    short_roles = alike_roles ShortTerm a h.short_roles;
    groups = a.groups h.groups;
  }

  alike_comes_to : (ls ms : List (Line E)) → Alike o norm ls ms → comes_to o norm ls ≡ comes_to o norm ms
  alike_comes_to ls ms a =
      a.sums _ _ ∙ ap₂ (λ nl nt. total o (contributions o norm nl nt ms)) (a.tallies (λ j p. is_of_kind LongTerm j && is_taken p)) (a.tallies (λ j p. is_of_kind ShortTerm j && is_taken p))

apart_turned : {E : Type 0} (l m : Line E) → Apart l m → Apart m l
apart_turned l m h tm tl s = h tl tm (subst (λ n. 0 < n) s.1 s.0, sym s.1)

module _ {E : Type 0} (o : Operations E) (laws : Laws o) (norm : Percentages) (part : AtMostWhole norm) where
  kept_rearranged : {b c : List (Record E)} → Rearranged b c → Kept o b → Kept o c
  kept_rearranged r k = record {
    few = subst (λ n. n ≤ 32) (length_rearranged r) k.few;
    in_range = all_rearranged (InRange o) r k.in_range;
  }

  -- the same lines in another order
  rearranged_alike : (b : List (Record E)) (ps : List Pick) (ms : List (Line E)) → Kept o b → Rearranged (lines b ps) ms → Alike o norm (lines b ps) ms
  rearranged_alike b ps ms k r = record {
    tallies = λ t. count_rearranged (λ l. t l.0.kind l.1) r;
    fitting = all_rearranged Fits r;
    groups = each_two_rearranged Apart apart_turned r;
    sums = λ nl nt. total_rearranged laws (mapped (λ l. contribution o norm nl nt l.0.kind l.1 l.0) r) (within o laws norm part nl nt b ps k);
  }

  -- partners in place of the records, line by line
  module _ {X : Type 0} (left right : X → Record E) where
    abbrev AreAlike : X → X → Type 0
    AreAlike x y = SharesGroup (left x) (left y) ↔ SharesGroup (right x) (right y)

    paired_tallies : (t : Kind → Pick → Bool) (xs : List X) (ps : List Pick) → AllByRecursion (λ x. Partners o (left x) (right x)) xs → tally t (lines (map left xs) ps) ≡ tally t (lines (map right xs) ps)
    paired_tallies t [] ps h = refl
    paired_tallies t (x ∷ xs) [] h = refl
    paired_tallies t (x ∷ xs) (p ∷ ps) h = ap₂ ◌+◌ (ap (λ k. cond (t k p) 1 0) h.0.kinds) (paired_tallies t xs ps h.1)

    paired_fitting : (xs : List X) (ps : List Pick) → AllByRecursion (λ x. Partners o (left x) (right x)) xs → AllByRecursion Fits (lines (map left xs) ps) → AllByRecursion Fits (lines (map right xs) ps)
    paired_fitting [] ps h f = tt
    paired_fitting (x ∷ xs) [] h f = tt
    paired_fitting (x ∷ xs) (p ∷ ps) h f = (subst (λ k. Among (picks_for k) p) h.0.kinds f.0, paired_fitting xs ps h.1 f.1)

    paired_apart : (x : X) (p : Pick) (xs : List X) (ps : List Pick) → AllByRecursion (AreAlike x) xs → AllByRecursion (Apart (left x, p)) (lines (map left xs) ps) → AllByRecursion (Apart (right x, p)) (lines (map right xs) ps)
    paired_apart x p [] ps g f = tt
    paired_apart x p (y ∷ xs) [] g f = tt
    paired_apart x p (y ∷ xs) (q ∷ ps) g f = (λ tx ty s. f.0 tx ty (g.0.1 s), paired_apart x p xs ps g.1 f.1)

    paired_groups : (xs : List X) (ps : List Pick) → EachTwo AreAlike xs → EachTwo Apart (lines (map left xs) ps) → EachTwo Apart (lines (map right xs) ps)
    paired_groups [] ps g f = tt
    paired_groups (x ∷ xs) [] g f = tt
    paired_groups (x ∷ xs) (p ∷ ps) g f = (paired_apart x p xs ps g.0 f.0, paired_groups xs ps g.1 f.1)

    paired_contributions : (nl nt : ℕ) (xs : List X) (ps : List Pick) → AllByRecursion (λ x. Partners o (left x) (right x)) xs → AllByRecursion (InRange o) (map left xs) → AllByRecursion (InRange o) (map right xs) → contributions o norm nl nt (lines (map left xs) ps) ≡ contributions o norm nl nt (lines (map right xs) ps)
    paired_contributions nl nt [] ps h a b = refl
    paired_contributions nl nt (x ∷ xs) [] h a b = refl
    paired_contributions nl nt (x ∷ xs) (p ∷ ps) h a b = ap₂ ◌∷◌ (same_contribution o laws norm part nl nt (left x) (right x) a.0 b.0 p h.0) (paired_contributions nl nt xs ps h.1 a.1 b.1)

    -- an admissible choice of one list of records gives one of the other that comes to the same
    pub transported : (q : Question) (b c : List (Record E)) → Kept o b → Kept o c → (xs : List X) → Rearranged (map left xs) b → Rearranged (map right xs) c → AllByRecursion (λ x. Partners o (left x) (right x)) xs → EachTwo AreAlike xs → (ps : List Pick) → Admissible q b ps → (qs : List Pick) × Admissible q c qs × (comes_to o norm (lines b ps) ≡ comes_to o norm (lines c qs))
    transported q b c kb kc xs rb rc partners groups ps h =
        let kl = kept_rearranged (turned rb) kb in
        let kr = kept_rearranged (turned rc) kc in
        let (ms, em, rm) = carried (turned rb) ps h.parallel in
        let (qs, eq, rq) = carried rc ms (em ∙ length-map xs left ∙ sym (length-map xs right)) in
        let middle : Alike o norm (lines (map left xs) ms) (lines (map right xs) ms) = record {
          tallies = λ t. paired_tallies t xs ms partners;
          fitting = paired_fitting xs ms partners;
          groups = paired_groups xs ms groups;
          sums = λ nl nt. ap (total o) (paired_contributions nl nt xs ms partners kl.in_range kr.in_range);
        } in
        let alike : Alike o norm (lines b ps) (lines c qs) = alike_trans (rearranged_alike b ps _ kb rm) (alike_trans middle (rearranged_alike _ ms _ kr rq)) in
        (qs, alike_admissible q b c ps qs alike eq h, alike_comes_to _ _ alike)
