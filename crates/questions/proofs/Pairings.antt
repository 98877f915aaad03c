-- The best choices of each kind, put together, are best among the choices that take as many.
use Rattle.std.proofs.Common.{◌≡◌, ℕ, ◌-◌, ◌≤◌, min, Bool, List, get_or, sym, refl, ap, ◌∙◌, subst, ap₂, arith, None, Option}
use Rattle.effect.specs.Laws.{Operations, Laws}
use Rattle.effect.specs.Sums.{total}
use Rattle.norm.specs.Percentages.{Percentages}
use Rattle.norm.specs.declared.terms.Term.{Term}
use Rattle.norm.specs.declared.terms.Term.TheVariants.{Long, Short}
use Rattle.questions.specs.PartChoices.{leads, seconds, comes, Best}
use Rattle.questions.specs.PartChoices.{taken as takes, count as tally, Admissible as Sub, Apart as Separate}
use Rattle.effect.specs.Laws.{AtMost}
use Rattle.questions.specs.Items.{full, items_of, Kept}
use Rattle.combination.specs.declared.percents.Percents.{Percents}
use Rattle.norm.specs.declared.roles.Role.{Role}
use Rattle.loads.specs.declared.kinds.Kind.{Kind}
use Rattle.loads.specs.declared.kinds.Kind.TheVariants.{Permanent, LongTerm, ShortTerm, Special}
use Rattle.loads.specs.declared.records.Record.{Record}
use Rattle.questions.proofs.Readies.{same_length}
use Rattle.combination.specs.Choices.{lines, taken, in_role, specials, Admissible}
use Rattle.questions.specs.Engine.{Marks}
use Rattle.questions.specs.Parts.{part, granted, Agrees, fixed_sum, merged}
use Rattle.questions.specs.Promises.{OneKind}
use Rattle.combination.specs.Worst.{contributions, comes_to}
use Rattle.combination.specs.declared.picks.Pick.{Pick}
use Rattle.combination.specs.declared.questions.Question.{Question}
use Rattle.questions.proofs.Counts.{long_taken, long_leads, long_seconds, short_taken, short_leads, short_seconds, special_taken}
use Rattle.questions.proofs.Splits.{four, by_parts, split, parts_most, fixed_most}
use Rattle.questions.proofs.Groupings.{apart_to, permanent_apart}
use Rattle.questions.proofs.Merges.{length_merged, fits_merged, factors_merged, part_long, part_short, part_special}
use Rattle.questions.proofs.Agreements.{comes_agree}
use Rattle.questions.proofs.Subchoices.{specials_first, sub_long, sub_short, sub_special}

module _ {V : Type 0} {e : Operations V} (laws : Laws e) (norm : Percentages) (part-most : (t : Term) (i nl nt : ℕ) → norm t i nl nt ≤ 100) (q : Question) (rs : List (Record V)) (kept : Kept e rs) (one : OneKind rs) (nl nt : ℕ) (sl st : Percents) (agl : Agrees nl sl (granted norm Long nl nt)) (agt : Agrees nt st (granted norm Short nl nt)) (wl wt ws : List Bool) (ml : Marks rs LongTerm wl) (mt : Marks rs ShortTerm wt) (ms : Marks rs Special ws) where
  module _ (ls ts ss : List (Option Role)) (bl : Best e (items_of e sl rs) wl nl ls) (bt : Best e (items_of e st rs) wt nt ts) (bs : Best e (items_of e full rs) ws (specials q) ss) where
    -- the three, put together
    abbrev pub together : List Pick
    together = merged e rs (λ k. get_or ls k None) (λ k. get_or ts k None) (λ k. get_or ss k None)

    long_part : part LongTerm rs together ≡ ls
    long_part = part_long e rs ls (λ k. get_or ts k None) (λ k. get_or ss k None) (bl.admissible.valid.parallel ∙ same_length e sl rs) (λ k t. sym (ml k) ∙ bl.admissible.within k t)

    short_part : part ShortTerm rs together ≡ ts
    short_part = part_short e rs (λ k. get_or ls k None) ts (λ k. get_or ss k None) (bt.admissible.valid.parallel ∙ same_length e st rs) (λ k t. sym (mt k) ∙ bt.admissible.within k t)

    special_part : part Special rs together ≡ ss
    special_part =
        let v = bs.admissible.valid in
        let f = specials_first q in
        part_special e rs (λ k. get_or ls k None) (λ k. get_or ts k None) ss (v.parallel ∙ same_length e full rs) (omega (arith, v.number, v.first)) (λ k t. sym (ms k) ∙ bs.admissible.within k t)

    pub takes_long : taken LongTerm (lines rs together) ≡ nl
    takes_long = sym (long_taken rs together) ∙ ap (tally takes) long_part ∙ bl.admissible.valid.number

    pub takes_short : taken ShortTerm (lines rs together) ≡ nt
    takes_short = sym (short_taken rs together) ∙ ap (tally takes) short_part ∙ bt.admissible.valid.number

    percents : Kind → Percents
    percents Permanent = full
    percents LongTerm = sl
    percents ShortTerm = st
    percents Special = full

    separate : (k : Kind) → Separate (items_of e (percents k) rs) (part k rs together)
    unfolding percents
    separate Permanent = permanent_apart e full rs together
    separate LongTerm = subst (Separate (items_of e sl rs)) (sym long_part) bl.admissible.valid.apart
    separate ShortTerm = subst (Separate (items_of e st rs)) (sym short_part) bt.admissible.valid.apart
    separate Special = subst (Separate (items_of e full rs)) (sym special_part) bs.admissible.valid.apart

    pub admissible : Admissible q rs together
    admissible =
        let ll : in_role LongTerm 1 (lines rs together) ≡ min 1 nl = sym (long_leads rs together) ∙ ap (tally leads) long_part ∙ bl.admissible.valid.first in
        let ln : in_role LongTerm 2 (lines rs together) ≡ min 1 (nl - 1) = sym (long_seconds rs together) ∙ ap (tally seconds) long_part ∙ bl.admissible.valid.next in
        let tl : in_role ShortTerm 1 (lines rs together) ≡ min 1 nt = sym (short_leads rs together) ∙ ap (tally leads) short_part ∙ bt.admissible.valid.first in
        let tn : in_role ShortTerm 2 (lines rs together) ≡ min 1 (nt - 1) = sym (short_seconds rs together) ∙ ap (tally seconds) short_part ∙ bt.admissible.valid.next in
        let n = takes_long in
        let m = takes_short in
        record {
          parallel = length_merged e rs (λ k. get_or ls k None) (λ k. get_or ts k None) (λ k. get_or ss k None);
          fitting = fits_merged e rs (λ k. get_or ls k None) (λ k. get_or ts k None) (λ k. get_or ss k None);
          special = sym (special_taken rs together) ∙ ap (tally takes) special_part ∙ bs.admissible.valid.number;
          long_roles = record { leading = λ h. omega arith; second = λ h. omega arith; no_second = λ h. omega arith };
          short_roles = record { leading = λ h. omega arith; second = λ h. omega arith; no_second = λ h. omega arith };
          groups = apart_to e percents rs together (fits_merged e rs (λ k. get_or ls k None) (λ k. get_or ts k None) (λ k. get_or ss k None)) one separate;
        }

    -- a choice that takes as many, by its parts
    by : (qs : List Pick) → Admissible q rs qs → taken LongTerm (lines rs qs) ≡ nl → taken ShortTerm (lines rs qs) ≡ nt → comes_to e norm (lines rs qs) ≡ by_parts laws norm part-most nl nt rs qs
    by qs a hl ht = ap₂ (λ (x y : ℕ). total e (contributions e norm x y (lines rs qs))) hl ht ∙ split laws norm part-most nl nt rs qs a.parallel kept.few kept.in_range a.fitting

    long_same : (xs : List (Option Role)) → Sub (items_of e sl rs) wl nl xs → comes e (items_of e sl rs) xs ≡ comes e (items_of e (granted norm Long nl nt) rs) xs
    long_same xs h = comes_agree e sl (granted norm Long nl nt) nl agl rs xs h.valid.number h.valid.first h.valid.next

    short_same : (xs : List (Option Role)) → Sub (items_of e st rs) wt nt xs → comes e (items_of e st rs) xs ≡ comes e (items_of e (granted norm Short nl nt) rs) xs
    short_same xs h = comes_agree e st (granted norm Short nl nt) nt agt rs xs h.valid.number h.valid.first h.valid.next

    pub reached : comes_to e norm (lines rs together) ≡ four laws (fixed_sum e rs together) (comes e (items_of e sl rs) ls) (comes e (items_of e st rs) ts) (comes e (items_of e full rs) ss)
    reached =
        by together admissible takes_long takes_short
        ∙ ap₂ (λ (x y : V). e.plus (fixed_sum e rs together) (e.plus x y)) (ap (comes e (items_of e (granted norm Long nl nt) rs)) long_part ∙ sym (long_same ls bl.admissible))
        (ap₂ e.plus (ap (comes e (items_of e (granted norm Short nl nt) rs)) short_part ∙ sym (short_same ts bt.admissible)) (ap (comes e (items_of e full rs)) special_part))

    moved : {A : Type 0} (f g : A → V) (x y z : A) → z ≡ y → f x ≡ g x → f y ≡ g y → AtMost e (f x) (f y) → AtMost e (g x) (g z)
    moved f g x y z zy fx fy h = subst (λ (v : V). AtMost e v (g z)) fx (subst (AtMost e (f x)) (fy ∙ ap g (sym zy)) h)

    pub greatest : (qs : List Pick) → Admissible q rs qs → taken LongTerm (lines rs qs) ≡ nl → taken ShortTerm (lines rs qs) ≡ nt → AtMost e (comes_to e norm (lines rs qs)) (comes_to e norm (lines rs together))
    greatest qs a hl ht =
        subst (λ (v : V). AtMost e v (comes_to e norm (lines rs together))) (sym (by qs a hl ht))
        (subst (AtMost e (by_parts laws norm part-most nl nt rs qs)) (sym (by together admissible takes_long takes_short))
        (parts_most laws norm part-most nl nt rs together qs kept.few kept.in_range
        (fixed_most laws rs together qs admissible.parallel a.parallel kept.few kept.in_range (factors_merged e rs (λ k. get_or ls k None) (λ k. get_or ts k None) (λ k. get_or ss k None)))
        (moved (comes e (items_of e sl rs)) (comes e (items_of e (granted norm Long nl nt) rs)) (part LongTerm rs qs) ls (part LongTerm rs together) long_part (long_same (part LongTerm rs qs) (sub_long e q rs sl wl nl qs a ml hl)) (long_same ls bl.admissible) (bl.most (part LongTerm rs qs) (sub_long e q rs sl wl nl qs a ml hl)))
        (moved (comes e (items_of e st rs)) (comes e (items_of e (granted norm Short nl nt) rs)) (part ShortTerm rs qs) ts (part ShortTerm rs together) short_part (short_same (part ShortTerm rs qs) (sub_short e q rs st wt nt qs a mt ht)) (short_same ts bt.admissible) (bt.most (part ShortTerm rs qs) (sub_short e q rs st wt nt qs a mt ht)))
        (moved (comes e (items_of e full rs)) (comes e (items_of e full rs)) (part Special rs qs) ss (part Special rs together) special_part refl refl (bs.most (part Special rs qs) (sub_special e q rs ws qs a ms)))))
