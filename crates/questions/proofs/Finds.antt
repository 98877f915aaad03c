-- The candidate for a pair of numbers.
use Rattle.std.proofs.Common.{◌≡◌, ℕ, ◌*◌, ◌<◌, ◌≤◌, List, map, length, get_or, Some, None, sym, ap, ◌∙◌, subst, arith, Option}
use Rattle.std.proofs.lemmas.List.{get_or-take}
use Rattle.effect.specs.Laws.{Operations, Laws, AtMost}
use Rattle.loads.specs.declared.kinds.Kind.{Kind}
use Rattle.loads.specs.declared.kinds.Kind.TheVariants.{Permanent, LongTerm, ShortTerm, Special}
use Rattle.loads.specs.declared.records.Record.{Record}
use Rattle.combination.specs.Choices.{lines, specials, Admissible}
use Rattle.combination.specs.Worst.{comes_to}
use Rattle.combination.specs.declared.picks.Pick.{Pick}
use Rattle.combination.specs.declared.questions.Question.{Question}
use Rattle.questions.specs.Engine.{Marks, Tabled, Prepared, PairBest, Room, four, part_total, joined, fixed_best}
use Rattle.questions.specs.Items.{full, items_of, Kept, Whole}
use Rattle.questions.specs.PartChoices.{comes, chosen, roles_of}
use Rattle.questions.specs.Parts.{part, best_factor, fixed_sum, merged}
use Rattle.questions.specs.Tables.{Answers}
use Rattle.norm.specs.declared.roles.Role.{Role}
use Rattle.questions.specs.declared.choice.PartChoice.{PartChoice}
use Rattle.combination.specs.declared.percents.Percents.{Percents}
use Rattle.questions.specs.declared.known.Known.{Known}
use Rattle.questions.specs.declared.pair.Parts.{Parts}
use Rattle.norm.specs.declared.taken.Taken.{Taken}
use Rattle.combination.specs.declared.percents.Table.{Table as PercentTable}
use Rattle.questions.specs.declared.pair.Tables.{Tables}
use Rattle.questions.proofs.Merges.{merged_same, fixed_same, part_long, part_short, part_special}
use Rattle.questions.proofs.Pairings.{admissible, reached, greatest}
use Rattle.questions.proofs.Readies.{most, same_length}
use Rattle.questions.proofs.Splits.{kinds, kinds_sum, reach_part, reach_fixed}
use Rattle.questions.proofs.Subchoices.{specials_first, sub_long, sub_short, sub_special}

module _ {V : Type 0} {e : Operations V} (laws : Laws e) (q : Question) (rs : List (Record V)) (kept : Kept e rs) (tables : Tables V) (p : Prepared e rs tables) where
  marks_of : (k : Kind) (known : Known) → known.kind ≡ k → Tabled e rs known → Marks rs k known.wanted
  marks_of k known is t = subst (λ (x : Kind). Marks rs x known.wanted) is t.marks

  pub ml : Marks rs LongTerm tables.long.wanted
  ml = marks_of LongTerm tables.long p.long_kind p.long_table

  pub mt : Marks rs ShortTerm tables.short.wanted
  mt = marks_of ShortTerm tables.short p.short_kind p.short_table

  ms : Marks rs Special tables.special.wanted
  ms = marks_of Special tables.special p.special_kind p.special_table

  module _ (g : PercentTable) (by_long : tables.long.percents ≡ Some g.long) (by_short : tables.short.percents ≡ Some g.short) (n : Taken) where
    wl : Whole g.long
    wl = (p.long_table.built g.long by_long).whole

    wt : Whole g.short
    wt = (p.short_table.built g.short by_short).whole

    pub no_long : Answers e (items_of e g.long rs) tables.long.wanted n.long None → PairBest e q rs g n None
    no_long h norm bound one al at = record {
      shown = tt;
      most = λ qs a x. h (part LongTerm rs qs) (sub_long e q rs g.long tables.long.wanted n.long qs a ml x.0);
    }

    pub no_short : Answers e (items_of e g.short rs) tables.short.wanted n.short None → PairBest e q rs g n None
    no_short h norm bound one al at = record {
      shown = tt;
      most = λ qs a x. h (part ShortTerm rs qs) (sub_short e q rs g.short tables.short.wanted n.short qs a mt x.1);
    }

    pub no_special : Answers e (items_of e full rs) tables.special.wanted (specials q) None → PairBest e q rs g n None
    no_special h norm bound one al at = record {
      shown = tt;
      most = λ qs a x. h (part Special rs qs) (sub_special e q rs tables.special.wanted qs a ms);
    }

    module _ (b : Parts) (hl : Answers e (items_of e g.long rs) tables.long.wanted n.long (Some b.long)) (ht : Answers e (items_of e g.short rs) tables.short.wanted n.short (Some b.short)) (hs : Answers e (items_of e full rs) tables.special.wanted (specials q) (Some b.special)) where
      abbrev ls : List (Option Role)
      ls = chosen (items_of e g.long rs) b.long

      abbrev ts : List (Option Role)
      ts = chosen (items_of e g.short rs) b.short

      abbrev ss : List (Option Role)
      ss = chosen (items_of e full rs) b.special

      whole_full : Whole full
      whole_full = record { leading = omega arith; second = omega arith; other = omega arith }

      pub room : Room e tables.permanent (part_total e rs g.long b.long) (part_total e rs g.short b.short) (part_total e rs full b.special)
      room =
          let all = kinds_sum rs in
          let few = kept.few in
          let none : ℕ → Option Role = λ k. None in
          let v = hs.admissible.valid in
          let same : e.reach tables.permanent ≡ e.reach (fixed_best e rs) = ap e.reach p.permanent in
          let x : e.reach (fixed_best e rs) ≤ kinds Permanent rs * most = reach_fixed laws rs (map (best_factor e) rs) kept.in_range (omega arith) in
          let a : e.reach (comes e (items_of e g.long rs) ls) ≤ kinds LongTerm rs * most =
          subst (λ (xs : List (Option Role)). e.reach (comes e (items_of e g.long rs) xs) ≤ kinds LongTerm rs * most)
          (part_long e rs ls none none (hl.admissible.valid.parallel ∙ same_length e g.long rs) (λ k h. sym (ml k) ∙ hl.admissible.within k h))
          (reach_part laws LongTerm g.long wl rs (merged e rs (λ k. get_or ls k None) none none) kept.in_range (omega arith)) in
          let d : e.reach (comes e (items_of e g.short rs) ts) ≤ kinds ShortTerm rs * most =
          subst (λ (xs : List (Option Role)). e.reach (comes e (items_of e g.short rs) xs) ≤ kinds ShortTerm rs * most)
          (part_short e rs none ts none (ht.admissible.valid.parallel ∙ same_length e g.short rs) (λ k h. sym (mt k) ∙ ht.admissible.within k h))
          (reach_part laws ShortTerm g.short wt rs (merged e rs none (λ k. get_or ts k None) none) kept.in_range (omega arith)) in
          let c : e.reach (comes e (items_of e full rs) ss) ≤ kinds Special rs * most =
          subst (λ (xs : List (Option Role)). e.reach (comes e (items_of e full rs) xs) ≤ kinds Special rs * most)
          (part_special e rs none none ss (v.parallel ∙ same_length e full rs) (omega (arith, v.number, v.first, specials_first q)) (λ k h. sym (ms k) ∙ hs.admissible.within k h))
          (reach_part laws Special full whole_full rs (merged e rs none none (λ k. get_or ss k None)) kept.in_range (omega arith)) in
          omega arith

      -- a role of a record, in the choice and in its part for the records
      shown_as : (x : Percents) (c : PartChoice) (k : ℕ) → k < length rs → get_or (roles_of c) k None ≡ get_or (chosen (items_of e x rs) c) k None
      shown_as x c k h = sym (get_or-take (length (items_of e x rs)) (roles_of c) k None (omega (arith, same_length e x rs)))

      pub found : (v : V) → v ≡ four e tables.permanent (part_total e rs g.long b.long) (part_total e rs g.short b.short) (part_total e rs full b.special) → PairBest e q rs g n (Some (record { effect = v; parts = b }))
      found v comes_together norm bound one al at =
          let ps : List Pick = merged e rs (λ k. get_or ls k None) (λ k. get_or ts k None) (λ k. get_or ss k None) in
          let same : joined e rs b ≡ ps = merged_same e rs (λ k. get_or (roles_of b.long) k None) (λ k. get_or (roles_of b.short) k None) (λ k. get_or (roles_of b.special) k None) (λ k. get_or ls k None) (λ k. get_or ts k None) (λ k. get_or ss k None) (shown_as g.long b.long) (shown_as g.short b.short) (shown_as full b.special) in
          let adm : Admissible q rs ps = admissible laws norm bound q rs kept one n.long n.short g.long g.short al at tables.long.wanted tables.short.wanted tables.special.wanted ml mt ms ls ts ss hl ht hs in
          let fix : fixed_sum e rs ps ≡ tables.permanent = fixed_same e rs (λ k. get_or ls k None) (λ k. get_or ts k None) (λ k. get_or ss k None) ∙ sym p.permanent in
          let rest : V = e.plus (comes e (items_of e g.long rs) ls) (e.plus (comes e (items_of e g.short rs) ts) (comes e (items_of e full rs) ss)) in
          let come : comes_to e norm (lines rs ps) ≡ v =
          reached laws norm bound q rs kept one n.long n.short g.long g.short al at tables.long.wanted tables.short.wanted tables.special.wanted ml mt ms ls ts ss hl ht hs
          ∙ ap (λ (x : V). e.plus x rest) fix ∙ sym comes_together in
          record {
            shown = (subst (Admissible q rs) (sym same) adm, ap (λ (xs : List Pick). comes_to e norm (lines rs xs)) same ∙ come);
            most = λ qs a x. subst (AtMost e (comes_to e norm (lines rs qs))) come (greatest laws norm bound q rs kept one n.long n.short g.long g.short al at tables.long.wanted tables.short.wanted tables.special.wanted ml mt ms ls ts ss hl ht hs qs a x.0 x.1);
          }
