-- The parts of a choice are choices of their kinds.
use Rattle.std.proofs.Common.{◌≡◌, ℕ, ◌-◌, ◌<◌, ◌≤◌, min, Bool, List, sym, refl, ◌∙◌, ⊎_elim, arith}
use Rattle.std.proofs.lemmas.Bool.{cases_lt}
use Rattle.effect.specs.Laws.{Operations}
use Rattle.loads.specs.declared.kinds.Kind.{Kind}
use Rattle.loads.specs.declared.kinds.Kind.TheVariants.{LongTerm, ShortTerm, Special}
use Rattle.loads.specs.declared.records.Record.{Record}
use Rattle.combination.specs.Choices.{lines, taken, in_role, specials, Roles, Admissible}
use Rattle.combination.specs.declared.picks.Pick.{Pick}
use Rattle.combination.specs.declared.questions.Question.{Question}
use Rattle.combination.specs.declared.questions.Question.TheVariants.{Basic, WithSpecial}
use Rattle.questions.specs.Engine.{Marks, Limits}
use Rattle.questions.specs.Items.{full, items_of}
use Rattle.questions.specs.PartChoices.{leads, seconds}
use Rattle.questions.specs.PartChoices.{taken as takes, count as tally, Admissible as Sub}
use Rattle.questions.specs.Parts.{part}
use Rattle.questions.specs.Tables.{TakesAtMost}
use Rattle.combination.specs.declared.percents.Percents.{Percents}
use Rattle.questions.proofs.Counts.{long_taken, long_leads, long_seconds, short_taken, short_leads, short_seconds, special_taken, special_leads, special_seconds, length_part, part_within}
use Rattle.questions.proofs.Groupings.{apart_from}
use Rattle.questions.proofs.Merges.{leads_most}
use Rattle.questions.proofs.Readies.{same_length}

-- the counts of roles, as a search has them
first_count : (n a : ℕ) → a ≤ n → (0 < n → a ≡ 1) → a ≡ min 1 n
first_count n a m h = ⊎_elim (λ (l : 0 < n). omega (arith, h l)) (λ (z : n ≤ 0). omega arith) (cases_lt 0 n)

next_count : (n b : ℕ) → (1 < n → b ≡ 1) → (n ≤ 1 → b ≡ 0) → b ≡ min 1 (n - 1)
next_count n b h z = ⊎_elim (λ (l : 1 < n). omega (arith, h l)) (λ (m : n ≤ 1). omega (arith, z m)) (cases_lt 1 n)

pub specials_first : (q : Question) → specials q ≡ min 1 (specials q)
specials_first Basic = refl
specials_first WithSpecial = refl

specials_next : (q : Question) → 0 ≡ min 1 (specials q - 1)
specials_next Basic = refl
specials_next WithSpecial = refl

module _ {V : Type 0} (e : Operations V) (q : Question) (rs : List (Record V)) (s : Percents) (wanted : List Bool) (n : ℕ) (qs : List Pick) (a : Admissible q rs qs) where
  -- the part of a kind whose roles the choice gives
  sub_roles : (k : Kind) → Roles k (lines rs qs) → tally takes (part k rs qs) ≡ taken k (lines rs qs) → tally leads (part k rs qs) ≡ in_role k 1 (lines rs qs) → tally seconds (part k rs qs) ≡ in_role k 2 (lines rs qs) → Marks rs k wanted → taken k (lines rs qs) ≡ n → Sub (items_of e s rs) wanted n (part k rs qs)
  sub_roles k roles t l r marks h =
      let m : tally leads (part k rs qs) ≤ tally takes (part k rs qs) = leads_most (part k rs qs) in
      record {
        valid = record {
          parallel = length_part k rs qs a.parallel ∙ sym (same_length e s rs);
          number = t ∙ h;
          first = first_count n (tally leads (part k rs qs)) (omega arith) (λ z. l ∙ roles.leading (omega arith));
          next = next_count n (tally seconds (part k rs qs)) (λ z. r ∙ roles.second (omega arith)) (λ z. r ∙ roles.no_second (omega arith));
          apart = apart_from e k s rs qs a.groups;
        };
        within = λ j t. marks j ∙ part_within k rs qs j t;
      }

  pub sub_long : Marks rs LongTerm wanted → taken LongTerm (lines rs qs) ≡ n → Sub (items_of e s rs) wanted n (part LongTerm rs qs)
  sub_long = sub_roles LongTerm a.long_roles (long_taken rs qs) (long_leads rs qs) (long_seconds rs qs)

  pub sub_short : Marks rs ShortTerm wanted → taken ShortTerm (lines rs qs) ≡ n → Sub (items_of e s rs) wanted n (part ShortTerm rs qs)
  sub_short = sub_roles ShortTerm a.short_roles (short_taken rs qs) (short_leads rs qs) (short_seconds rs qs)

pub sub_special : {V : Type 0} (e : Operations V) (q : Question) (rs : List (Record V)) (wanted : List Bool) (qs : List Pick) → Admissible q rs qs → Marks rs Special wanted → Sub (items_of e full rs) wanted (specials q) (part Special rs qs)
sub_special e q rs wanted qs a marks = record {
  valid = record {
    parallel = length_part Special rs qs a.parallel ∙ sym (same_length e full rs);
    number = special_taken rs qs ∙ a.special;
    first = special_leads rs qs ∙ a.special ∙ specials_first q;
    next = special_seconds rs qs ∙ specials_next q;
    apart = apart_from e Special full rs qs a.groups;
  };
  within = λ k t. marks k ∙ part_within Special rs qs k t;
}

-- no choice takes more than there are groups
module _ {V : Type 0} (e : Operations V) (q : Question) (rs : List (Record V)) (wanted : List Bool) (n : ℕ) (bound : TakesAtMost (items_of e full rs) wanted n) where
  pub long_limit : Marks rs LongTerm wanted → Limits q rs LongTerm n
  long_limit marks qs a = bound (taken LongTerm (lines rs qs)) _ _ (part LongTerm rs qs) (sub_long e q rs full wanted (taken LongTerm (lines rs qs)) qs a marks refl)

  pub short_limit : Marks rs ShortTerm wanted → Limits q rs ShortTerm n
  short_limit marks qs a = bound (taken ShortTerm (lines rs qs)) _ _ (part ShortTerm rs qs) (sub_short e q rs full wanted (taken ShortTerm (lines rs qs)) qs a marks refl)
