-- What is known of the kinds, and the candidates of a search.
use Rattle.std.specs.Prelude.{◌≡◌, ℕ, ◌+◌, ◌<◌, ◌≤◌, Bool, false, ◌⊎◌, List, map, length, get_or, Some, None, Option, slice_index_or}
use Rattle.effect.specs.Laws.{Operations, limit}
use Rattle.loads.specs.declared.kinds.Kind.{Kind}
use Rattle.loads.specs.declared.kinds.Kind.TheVariants.{LongTerm, ShortTerm, Special}
use Rattle.loads.specs.declared.records.Record.{Record}
use Rattle.norm.specs.Percentages.{Percentages}
use Rattle.norm.specs.declared.terms.Term.{Term}
use Rattle.norm.specs.declared.terms.Term.TheVariants.{Long, Short}
use Rattle.combination.specs.Choices.{lines, taken, Admissible}
use Rattle.combination.specs.Worst.{comes_to, Worst}
use Rattle.combination.specs.declared.picks.Pick.{Pick}
use Rattle.combination.specs.declared.questions.Question.{Question}
use Rattle.questions.specs.Items.{full, items_of, Whole}
use Rattle.questions.specs.Larger.{NoLess}
use Rattle.questions.specs.Larger.{Tops as Held}
use Rattle.questions.specs.PartChoices.{Marked, comes, chosen, roles_of}
use Rattle.questions.specs.Parts.{mask, best_factor, fixed_sum, granted, merged, Agrees}
use Rattle.questions.specs.Promises.{AnswersSound, OneKind}
use Rattle.questions.specs.Tables.{TableBest}
use Rattle.questions.specs.declared.choice.PartChoice.{PartChoice}
use Rattle.combination.specs.declared.percents.Percents.{Percents}
use Rattle.questions.specs.declared.known.Known.{Known}
use Rattle.questions.specs.declared.pair.Candidate.{Candidate}
use Rattle.questions.specs.declared.pair.Parts.{Parts}
use Rattle.norm.specs.declared.taken.Taken.{Taken}
use Rattle.combination.specs.declared.percents.Table.{Table as PercentTable}
use Rattle.combination.specs.declared.answers.Answer.{Answer}
use Rattle.combination.specs.Sound.{Sound}
use Rattle.questions.specs.declared.pair.Tables.{Tables}

-- the flags are those of the records of a kind
abbrev pub Marks : {V : Type 0} → List (Record V) → Kind → List Bool → Type 0
Marks rs kind flags = (k : ℕ) → slice_index_or flags k false ≡ slice_index_or (mask kind rs) k false

-- the table has the best choices among the records of the kind, at the percentages s
pub record Built {V : Type 0} (e : Operations V) (rs : List (Record V)) (known : Known) (s : Percents) : Type 0 where
  pub whole : Whole s
  pub best : TableBest e (items_of e s rs) known.table
  pub all : (k : ℕ) → k < length rs → Marked known.wanted k → Marked known.table.done k
  pub only : (k : ℕ) → Marked known.table.done k → Marked known.wanted k

-- the same, where a table was built
pub record Tabled {V : Type 0} (e : Operations V) (rs : List (Record V)) (known : Known) : Type 0 where
  pub marks : Marks rs known.kind known.wanted
  pub built : (s : Percents) → known.percents ≡ Some s → Built e rs known s

-- the sum of the permanent loads, each by the factor that comes to the most
abbrev pub fixed_best : {V : Type 0} → Operations V → List (Record V) → V
fixed_best e rs = fixed_sum e rs (map (best_factor e) rs)

-- what each question asks of its records and tables
pub record Prepared {V : Type 0} (e : Operations V) (rs : List (Record V)) (t : Tables V) : Type 0 where
  pub permanent : t.permanent ≡ fixed_best e rs
  pub long_table : Tabled e rs t.long
  pub short_table : Tabled e rs t.short
  pub special_table : Tabled e rs t.special
  pub long_kind : t.long.kind ≡ LongTerm
  pub short_kind : t.short.kind ≡ ShortTerm
  pub special_kind : t.special.kind ≡ Special
  pub special_whole : t.special.percents ≡ Some full
  pub special_rows : 1 ≤ t.special.table.limit

-- what a part choice comes to, at the percentages s
abbrev pub part_total : {V : Type 0} → Operations V → List (Record V) → Percents → PartChoice → V
part_total e rs s c = comes e (items_of e s rs) (chosen (items_of e s rs) c)

-- the sum of the permanent loads and of three choices
abbrev pub four : {V : Type 0} → Operations V → V → V → V → V → V
four e fixed l t s = e.plus fixed (e.plus l (e.plus t s))

-- it stays within the limit
abbrev pub Room : {V : Type 0} → Operations V → V → V → V → V → Type 0
Room e fixed l t s = e.reach fixed + e.reach l + e.reach t + e.reach s ≤ limit

-- the picks of three choices and the permanent loads
abbrev pub joined : {V : Type 0} → Operations V → List (Record V) → Parts → List Pick
joined e rs p = merged e rs (λ k. get_or (roles_of p.long) k None) (λ k. get_or (roles_of p.short) k None) (λ k. get_or (roles_of p.special) k None)

-- the picks of a candidate
abbrev pub picks_of : {V : Type 0} → Operations V → List (Record V) → Candidate V → List Pick
picks_of e rs c = joined e rs c.parts

-- v is at most the candidate's effect
abbrev pub Under : {V : Type 0} → Operations V → V → Option (Candidate V) → Type 0
Under e v o = Held e (λ c. c.effect) (λ v. v) o v

-- r is a or b, and no less than either
abbrev pub Larger : {V : Type 0} → Operations V → Option (Candidate V) → Option (Candidate V) → Option (Candidate V) → Type 0
Larger e a b r = NoLess e (λ c. c.effect) (λ v. v) a b r

module _ {V : Type 0} (e : Operations V) (norm : Percentages) (q : Question) (rs : List (Record V)) where
  -- a candidate is an admissible choice and comes to its effect
  abbrev pub Shown : Option (Candidate V) → Type 0
  Shown None = Unit {0}
  Shown (Some c) = Admissible q rs (picks_of e rs c) × (comes_to e norm (lines rs (picks_of e rs c)) ≡ c.effect)

  abbrev pub Tops : Option (Candidate V) → List Pick → Type 0
  Tops o qs = Under e (comes_to e norm (lines rs qs)) o

  -- the best candidate among the choices that take numbers of loads in P
  pub record Covers (P : ℕ → ℕ → Type 0) (o : Option (Candidate V)) : Type 0 where
    pub shown : Shown o
    pub most : (qs : List Pick) → Admissible q rs qs → P (taken LongTerm (lines rs qs)) (taken ShortTerm (lines rs qs)) → Tops o qs

  -- the worst, or None where no choice is admissible
  abbrev pub Answered : Option (Candidate V) → Type 0
  Answered None = (qs : List Pick) → Admissible q rs qs → ⊥
  Answered (Some c) = Worst e norm q rs (picks_of e rs c) c.effect

-- no admissible choice takes more than n records of a kind
abbrev pub Limits : {V : Type 0} → Question → List (Record V) → Kind → ℕ → Type 0
Limits q rs k n = (qs : List Pick) → Admissible q rs qs → taken k (lines rs qs) ≤ n

-- the numbers of one pair
abbrev pub Just : ℕ → ℕ → ℕ → ℕ → Type 0
Just nl nt x y = (x ≡ nl) × (y ≡ nt)

-- the pairs from (nl, nt) on, in the order in which they are tried: from the largest down
abbrev pub Since : ℕ → ℕ → ℕ → ℕ → Type 0
Since nl nt x y = (nl < x) ⊎ ((x ≡ nl) × (nt ≤ y))

-- the best candidate for a pair of numbers, under each norm that grants the percentages
abbrev pub PairBest : {V : Type 0} → Operations V → Question → List (Record V) → PercentTable → Taken → Option (Candidate V) → Type 0
PairBest e q rs s n o =
    (norm : Percentages) → ((t : Term) (i x y : ℕ) → norm t i x y ≤ 100) → OneKind rs → Agrees n.long s.long (granted norm Long n.long n.short) → Agrees n.short s.short (granted norm Short n.long n.short) → Covers e norm q rs (Just n.long n.short) o

-- the answer is the worst; None where the records break a rule, their groups are of two kinds or no choice is admissible
abbrev pub Finds : {V : Type 0} → Operations V → Percentages → Question → List (Record V) → Option (Answer V) → Type 0
Finds e norm q rs None = Sound e rs → OneKind rs → (picks : List Pick) → Admissible q rs picks → ⊥
Finds e norm q rs (Some a) = AnswersSound e norm q rs a
