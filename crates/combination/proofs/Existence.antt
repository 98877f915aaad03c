-- A basic choice always exists, a special one where there is a special load, and the best of finitely many choices is a worst effect.
use Rattle.std.proofs.Common.{◌≡◌, ℕ, suc, ◌+◌, ◌<◌, ◌≤◌, Bool, true, false, cond, ◌&&◌, T, eqb, ◌⊎◌, List, [], ◌∷◌, map, length, sym, refl, ap, ◌∙◌, subst, ap₂, inl, inr, ⊎_elim, add-zero, zero-add, arith}
use mathlib.Core.Bool.{and-false}
use lib.ListN.{length-map}
use Rattle.std.specs.List.{AllByRecursion}
use Rattle.std.proofs.lemmas.Bool.{cases_lt}
use Rattle.effect.specs.Laws.{Operations, Laws, AtMost}
use Rattle.effect.proofs.AtMost.{at_most_same, at_most_under, at_most_trans, at_most_or_under}
use Rattle.loads.specs.declared.kinds.Kind.{Kind}
use Rattle.loads.specs.declared.kinds.Kind.TheVariants.{Permanent, LongTerm, ShortTerm, Special}
use Rattle.loads.specs.declared.records.Record.{Record}
use Rattle.norm.specs.Percentages.{Percentages}
use Rattle.combination.specs.Lists.{Among, EachTwo, count}
use Rattle.combination.specs.Choices.{Line, lines, picks_for, is_of_kind, is_taken, role, taken, in_role, Fits, Apart, Roles}
use Rattle.combination.specs.Existence.{Answerable, Existence}
use Rattle.combination.specs.Worst.{comes_to, Worst, NoSpecial}
use Rattle.combination.specs.declared.picks.Pick.{Pick}
use Rattle.combination.specs.declared.picks.Pick.TheVariants.{Upper, Out, Taken}
use Rattle.combination.specs.declared.questions.Question.{Question}
use Rattle.combination.specs.declared.questions.Question.TheVariants.{Basic, WithSpecial}
use Rattle.combination.proofs.Carrying.{tally}
use Rattle.combination.proofs.Deciding.{test, test_from, test_to}
use Rattle.combination.proofs.Enumerating.{choices, among_choices, from_choices}

-- how many special loads there are
abbrev pub special_records : {E : Type 0} → List (Record E) → ℕ
special_records records = count (λ r. is_of_kind Special r.kind) records

module _ {E : Type 0} (o : Operations E) (laws : Laws o) where
  -- none of the list that passes is larger
  abbrev Best : {X : Type 0} → List X → (X → Bool) → (X → E) → X → Type 0
  Best {X} xs p v x = (y : X) → Among xs y → T (p y) → AtMost o (v y) (v x)

  abbrev Found : {X : Type 0} → List X → (X → Bool) → (X → E) → Type 0
  Found {X} xs p v = ((x : X) × Among xs x × T (p x) × Best xs p v x) ⊎ ((y : X) → Among xs y → T (p y) → ⊥)

  best_of : {X : Type 0} (xs : List X) (p : X → Bool) (v : X → E) → Found xs p v
  best_of [] p v = inr (λ y m t. m)
  best_of {X} (x ∷ xs) p v = go (p x) refl (best_of xs p v)
    where
      first : p x ≡ true → ((y : X) → Among xs y → T (p y) → AtMost o (v y) (v x)) → Found (x ∷ xs) p v
      first e h = inl (x, inl refl, subst T (sym e) tt, λ y m t. elim m [ inl i ↦ at_most_same laws _ _ (ap v i) | inr k ↦ h y k t ])

      go : (b : Bool) → p x ≡ b → Found xs p v → Found (x ∷ xs) p v
      go false e (inl w) = inl (w.0, inr w.1, w.2, λ y m t. elim m [ inl i ↦ absurd (subst T (ap p i ∙ e) t) | inr k ↦ w.3 y k t ])
      go false e (inr n) = inr (λ y m t. elim m [ inl i ↦ subst T (ap p i ∙ e) t | inr k ↦ n y k t ])
      go true e (inr n) = first e (λ y k t. absurd (n y k t))
      go true e (inl w) =
          elim (at_most_or_under laws (v x) (v w.0)) [
            | inl h ↦ inl (w.0, inr w.1, w.2, λ y m t. elim m [ inl i ↦ subst (λ z. AtMost o (v z) (v w.0)) (sym i) h | inr k ↦ w.3 y k t ])
            | inr l ↦ first e (λ y k t. at_most_trans laws (v y) (v w.0) (v x) (w.3 y k t) (at_most_under laws (v w.0) (v x) l))
          ]

  pub worst_exists : (norm : Percentages) (q : Question) (records : List (Record E)) → Answerable q records → (choice : List Pick) × (effect : E) × Worst o norm q records choice effect
  worst_exists norm q records a =
      elim (best_of (choices records) (λ ps. test q (lines records ps)) (λ ps. comes_to o norm (lines records ps))) [
        | inl w ↦ (
          w.0,
          comes_to o norm (lines records w.0),
          record {
            admissible = test_to q records w.0 (from_choices records w.0 w.1).0 (from_choices records w.0 w.1).1 w.2;
            reached = refl;
            greatest = λ other h. w.3 other (among_choices records other h.parallel h.fitting) (test_from q records other h);
          },
        )
        | inr n ↦ absurd (n a.0 (among_choices records a.0 a.1.parallel a.1.fitting) (test_from q records a.0 a.1))
      ]

-- what leaves a record of a kind out, as far as it can be
abbrev rest : Kind → Pick
rest Permanent = Upper
rest LongTerm = Out
rest ShortTerm = Out
rest Special = Out

rest_fits : (k : Kind) → Among (picks_for k) (rest k)
rest_fits Permanent = inl refl
rest_fits LongTerm = inl refl
rest_fits ShortTerm = inl refl
rest_fits Special = inl refl

rest_untaken : (k : Kind) → is_taken (rest k) ≡ false
rest_untaken Permanent = refl
rest_untaken LongTerm = refl
rest_untaken ShortTerm = refl
rest_untaken Special = refl

rest_role : (k : Kind) → role (rest k) ≡ 0
rest_role Permanent = refl
rest_role LongTerm = refl
rest_role ShortTerm = refl
rest_role Special = refl

no_taken : (j k : Kind) → (is_of_kind j k && is_taken (rest k)) ≡ false
no_taken j k = ap (λ b. is_of_kind j k && b) (rest_untaken k) ∙ and-false (is_of_kind j k)

no_second : (j k : Kind) → (is_of_kind j k && eqb (role (rest k)) 2) ≡ false
no_second j k = ap (λ n. is_of_kind j k && eqb n 2) (rest_role k) ∙ and-false (is_of_kind j k)

is_special : (k : Kind) → is_of_kind Special k ≡ true → k ≡ Special
is_special Permanent e = absurd (subst T (sym e) tt)
is_special LongTerm e = absurd (subst T (sym e) tt)
is_special ShortTerm e = absurd (subst T (sym e) tt)
is_special Special e = refl

no_roles : {E : Type 0} (k : Kind) (ls : List (Line E)) → taken k ls ≡ 0 → in_role k 2 ls ≡ 0 → Roles k ls
no_roles k ls e f = record {
  leading = λ h. absurd (omega (arith, e));
  second = λ h. absurd (omega (arith, e));
  no_second = λ h. f;
}

at_most_one : (a b : Bool) → cond (a && b) 1 0 ≤ cond a 1 0
at_most_one true true = omega arith
at_most_one true false = omega arith
at_most_one false b = omega arith

module _ {E : Type 0} where
  abbrev idle : List (Record E) → List Pick
  idle records = map (λ r. rest r.kind) records

  idle_tally : (t : Kind → Pick → Bool) → ((k : Kind) → t k (rest k) ≡ false) → (records : List (Record E)) → tally t (lines records (idle records)) ≡ 0
  idle_tally t h [] = refl
  idle_tally t h (r ∷ rs) = ap₂ (λ b n. cond b 1 0 + n) (h r.kind) (idle_tally t h rs)

  idle_fits : (records : List (Record E)) → AllByRecursion Fits (lines records (idle records))
  idle_fits [] = tt
  idle_fits (r ∷ rs) = (rest_fits r.kind, idle_fits rs)

  idle_apart : (l : Line E) (records : List (Record E)) → AllByRecursion (Apart l) (lines records (idle records))
  idle_apart l [] = tt
  idle_apart l (r ∷ rs) = (λ tl tm s. subst T (rest_untaken r.kind) tm, idle_apart l rs)

  idle_groups : (records : List (Record E)) → EachTwo Apart (lines records (idle records))
  idle_groups [] = tt
  idle_groups (r ∷ rs) = (idle_apart (r, rest r.kind) rs, idle_groups rs)

  -- a record that is left out is apart from all others
  out_apart : (r : Record E) (ls : List (Line E)) → AllByRecursion (Apart (r, rest r.kind)) ls
  out_apart r [] = tt
  out_apart r (l ∷ ls) = (λ tl tm s. subst T (rest_untaken r.kind) tl, out_apart r ls)

  pub basic_exists : (records : List (Record E)) → Answerable Basic records
  basic_exists records = (
    idle records,
    record {
      parallel = length-map records (λ r. rest r.kind);
      fitting = idle_fits records;
      special = idle_tally (λ k p. is_of_kind Special k && is_taken p) (no_taken Special) records;
      long_roles = no_roles LongTerm (lines records (idle records)) (idle_tally (λ k p. is_of_kind LongTerm k && is_taken p) (no_taken LongTerm) records) (idle_tally (λ k p. is_of_kind LongTerm k && eqb (role p) 2) (no_second LongTerm) records);
      short_roles = no_roles ShortTerm (lines records (idle records)) (idle_tally (λ k p. is_of_kind ShortTerm k && is_taken p) (no_taken ShortTerm) records) (idle_tally (λ k p. is_of_kind ShortTerm k && eqb (role p) 2) (no_second ShortTerm) records);
      groups = idle_groups records;
    },
  )

  -- the choice that takes the first special load alone

  record OneSpecial (records : List (Record E)) : Type 0 where
    picks : List Pick
    parallel : length picks ≡ length records
    fitting : AllByRecursion Fits (lines records picks)
    tallies : (t : Kind → Pick → Bool) → ((k : Kind) → t k (rest k) ≡ false) → tally t (lines records picks) ≡ cond (t Special Taken) 1 0
    groups : EachTwo Apart (lines records picks)

  one_special : (records : List (Record E)) → 0 < special_records records → OneSpecial records
  one_special [] h = absurd (omega arith)
  one_special (r ∷ rs) h = go (is_of_kind Special r.kind) refl (one_special rs)
    where
      go : (b : Bool) → is_of_kind Special r.kind ≡ b → (0 < special_records rs → OneSpecial rs) → OneSpecial (r ∷ rs)
      go true e rec = record {
        picks = Taken ∷ idle rs;
        parallel = ap suc (length-map rs (λ x. rest x.kind));
        fitting = (subst (λ k. Among (picks_for k) Taken) (sym (is_special r.kind e)) (inr (inl refl)), idle_fits rs);
        tallies = λ t u. ap₂ (λ k n. cond (t k Taken) 1 0 + n) (is_special r.kind e) (idle_tally t u rs) ∙ add-zero _;
        groups = (idle_apart (r, Taken) rs, idle_groups rs);
      }
      go false e rec =
          let more : ◌≡◌ {A = ℕ} (cond (is_of_kind Special r.kind) 1 0) 0 = ap (λ (b : Bool). cond {A = ℕ} b 1 0) e in
          let one = rec (omega arith) in
          record {
            picks = rest r.kind ∷ one.picks;
            parallel = ap suc one.parallel;
            fitting = (rest_fits r.kind, one.fitting);
            tallies = λ t u. ap₂ (λ b n. cond b 1 0 + n) (u r.kind) (one.tallies t u) ∙ zero-add _;
            groups = (out_apart r (lines rs one.picks), one.groups);
          }

  pub special_exists : (records : List (Record E)) → 0 < special_records records → Answerable WithSpecial records
  special_exists records h =
      let one = one_special records h in (
        one.picks,
        record {
          parallel = one.parallel;
          fitting = one.fitting;
          special = one.tallies (λ k p. is_of_kind Special k && is_taken p) (no_taken Special);
          long_roles = no_roles LongTerm (lines records one.picks) (one.tallies (λ k p. is_of_kind LongTerm k && is_taken p) (no_taken LongTerm)) (one.tallies (λ k p. is_of_kind LongTerm k && eqb (role p) 2) (no_second LongTerm));
          short_roles = no_roles ShortTerm (lines records one.picks) (one.tallies (λ k p. is_of_kind ShortTerm k && is_taken p) (no_taken ShortTerm)) (one.tallies (λ k p. is_of_kind ShortTerm k && eqb (role p) 2) (no_second ShortTerm));
          groups = one.groups;
        },
      )

  pub taken_at_most : (records : List (Record E)) (ps : List Pick) → taken Special (lines records ps) ≤ special_records records
  taken_at_most [] ps = omega arith
  taken_at_most (r ∷ rs) [] = omega arith
  taken_at_most (r ∷ rs) (p ∷ ps) = omega (arith, at_most_one (is_of_kind Special r.kind) (is_taken p), taken_at_most rs ps)

  none_special : (records : List (Record E)) → special_records records ≡ 0 → NoSpecial records
  none_special [] e = tt
  none_special (r ∷ rs) e = (λ h. omega (arith, ap (λ k. cond {A = ℕ} (is_of_kind Special k) 1 0) h), none_special rs (omega arith))

  no_special : (records : List (Record E)) → NoSpecial records → special_records records ≡ 0
  no_special [] h = refl
  no_special (r ∷ rs) h = go (is_of_kind Special r.kind) refl (no_special rs h.1)
    where
      go : (b : Bool) → is_of_kind Special r.kind ≡ b → special_records rs ≡ 0 → special_records (r ∷ rs) ≡ 0
      go true e rest = absurd (h.0 (is_special r.kind e))
      go false e rest = omega (arith, ap (λ (b : Bool). cond {A = ℕ} b 1 0) e)

  pub special_or_none : (records : List (Record E)) → Answerable WithSpecial records ⊎ NoSpecial records
  special_or_none records =
      ⊎_elim
      (λ (some : 0 < special_records records). inl (special_exists records some))
      (λ (none : special_records records ≤ 0). inr (none_special records (omega arith)))
      (cases_lt 0 (special_records records))

  pub not_both : (records : List (Record E)) → Answerable WithSpecial records → NoSpecial records → ⊥
  not_both records a n = omega (arith, taken_at_most records a.0, a.1.special, no_special records n)

pub existence : {E : Type 0} (o : Operations E) → Laws o → (norm : Percentages) → Existence o norm
existence o laws norm = record {
  basic = basic_exists;
  special = special_or_none;
  not_both = not_both;
  worst = worst_exists o laws norm;
}
