-- No two taken records share a group: in a choice, and in each of its parts.
use Rattle.std.proofs.Common.{◌≡◌, ℕ, zero, suc, Bool, true, false, cond, T, ◌≢◌, List, [], ◌∷◌, get_or, sym, refl, ap, ◌∙◌, subst, inl, inr, ⊎_elim, arith, None}
use Rattle.std.proofs.lemmas.Bool.{cases_eq}
use Rattle.std.specs.List.{AllByRecursion}
use Rattle.effect.specs.Laws.{Operations}
use Rattle.questions.specs.PartChoices.{group_at}
use Rattle.questions.specs.PartChoices.{taken as takes, Apart as Separate}
use Rattle.questions.specs.Items.{items_of}
use Rattle.combination.specs.declared.percents.Percents.{Percents}
use Rattle.loads.specs.declared.kinds.Kind.{Kind}
use Rattle.loads.specs.declared.kinds.Kind.TheVariants.{Permanent, LongTerm, ShortTerm, Special}
use Rattle.loads.specs.declared.records.Record.{Record}
use Rattle.combination.specs.Choices.{is_of_kind, is_taken, lines, picks_for, Fits, Apart, SharesGroup}
use Rattle.combination.specs.Lists.{Among, EachTwo}
use Rattle.questions.specs.Parts.{role_at, part}
use Rattle.questions.specs.Promises.{OneKind}
use Rattle.combination.specs.declared.picks.Pick.{Pick}
use Rattle.questions.proofs.Counts.{plain_taken, lone_taken}

of_cond : (b : Bool) → ◌≡◌ {A = ℕ} (cond b 1 0) 1 → T b
of_cond true h = tt
of_cond false h = absurd (omega arith)

to_cond : (b : Bool) → T b → ◌≡◌ {A = ℕ} (cond b 1 0) 1
to_cond true t = refl
to_cond false t = absurd t

role_taken : (k : Kind) (p : Pick) → takes (role_at k p) ≡ 1 → T (is_taken p)
role_taken Permanent p h = absurd (omega arith)
role_taken LongTerm p h = of_cond (is_taken p) (sym (plain_taken p) ∙ h)
role_taken ShortTerm p h = of_cond (is_taken p) (sym (plain_taken p) ∙ h)
role_taken Special p h = of_cond (is_taken p) (sym (lone_taken p) ∙ h)

taken_cond : (k : Kind) (b : Bool) (p : Pick) → takes (cond b (role_at k p) None) ≡ 1 → T (is_taken p)
taken_cond k true p h = role_taken k p h
taken_cond k false p h = absurd (omega arith)

not_taken : (p : Pick) → Among (picks_for Permanent) p → T (is_taken p) → ⊥
not_taken p (inl h) t = subst (λ (x : Pick). T (is_taken x)) h t
not_taken p (inr (inl h)) t = subst (λ (x : Pick). T (is_taken x)) h t
not_taken p (inr (inr h)) t = h

fit_taken : (kd : Kind) (p : Pick) → Among (picks_for kd) p → T (is_taken p) → takes (cond (is_of_kind kd kd) (role_at kd p) None) ≡ 1
fit_taken Permanent p f t = absurd (not_taken p f t)
fit_taken LongTerm p f t = plain_taken p ∙ to_cond (is_taken p) t
fit_taken ShortTerm p f t = plain_taken p ∙ to_cond (is_taken p) t
fit_taken Special p f t = lone_taken p ∙ to_cond (is_taken p) t

module _ {V : Type 0} (e : Operations V) where
  all_from : (k : Kind) (s : Percents) (r : Record V) (p : Pick) (rs : List (Record V)) (ps : List Pick) (j : ℕ) → AllByRecursion (Apart (r, p)) (lines rs ps) → T (is_taken p) → takes (get_or (part k rs ps) j None) ≡ 1 → r.load.group ≡ group_at (items_of e s rs) j → r.load.group ≡ 0
  all_from k s r p [] ps j f tp tj same = absurd (omega arith)
  all_from k s r p (x ∷ rs) [] j f tp tj same = absurd (omega arith)
  all_from k s r p (x ∷ rs) (y ∷ ps) zero f tp tj same = ⊎_elim
      (λ (z : r.load.group ≡ 0). z)
      (λ (nz : r.load.group ≢ 0). absurd (f.0 tp (taken_cond k (is_of_kind k x.kind) y tj) (omega arith, same)))
      (cases_eq r.load.group 0)
  all_from k s r p (x ∷ rs) (y ∷ ps) (suc j) f tp tj same = all_from k s r p rs ps j f.1 tp tj same

  pub apart_from : (k : Kind) (s : Percents) (rs : List (Record V)) (ps : List Pick) → EachTwo Apart (lines rs ps) → Separate (items_of e s rs) (part k rs ps)
  apart_from k s [] ps f i j ne ti tj same = absurd (omega arith)
  apart_from k s (r ∷ rs) [] f i j ne ti tj same = absurd (omega arith)
  apart_from k s (r ∷ rs) (p ∷ ps) f zero zero ne ti tj same = absurd (ne refl)
  apart_from k s (r ∷ rs) (p ∷ ps) f zero (suc j) ne ti tj same = all_from k s r p rs ps j f.0 (taken_cond k (is_of_kind k r.kind) p ti) tj same
  apart_from k s (r ∷ rs) (p ∷ ps) f (suc i) zero ne ti tj same = same ∙ all_from k s r p rs ps i f.0 (taken_cond k (is_of_kind k r.kind) p tj) ti (sym same)
  apart_from k s (r ∷ rs) (p ∷ ps) f (suc i) (suc j) ne ti tj same = apart_from k s rs ps f.1 i j (λ h. ne (ap suc h)) ti tj same

  all_to : (r : Record V) (p : Pick) (s : Percents) (rs : List (Record V)) (ps : List Pick) → Among (picks_for r.kind) p → AllByRecursion Fits (lines rs ps) → AllByRecursion (λ b. SharesGroup r b → r.kind ≡ b.kind) rs → ((j : ℕ) → takes (cond (is_of_kind r.kind r.kind) (role_at r.kind p) None) ≡ 1 → takes (get_or (part r.kind rs ps) j None) ≡ 1 → r.load.group ≡ group_at (items_of e s rs) j → r.load.group ≡ 0) → AllByRecursion (Apart (r, p)) (lines rs ps)
  all_to r p s [] ps f fs one h = tt
  all_to r p s (x ∷ rs) [] f fs one h = tt
  all_to r p s (x ∷ rs) (y ∷ ps) f fs one h = (
    λ tp ty share. let z : r.load.group ≡ 0 = h 0 (fit_taken r.kind p f tp) (subst (λ (k : Kind). takes (cond (is_of_kind k x.kind) (role_at k y) None) ≡ 1) (sym (one.0 share)) (fit_taken x.kind y fs.0 ty)) share.1 in omega (arith, share.0),
    all_to r p s rs ps f fs.1 one.1 (λ j. h (suc j)),
  )

  pub apart_to : (s : Kind → Percents) (rs : List (Record V)) (ps : List Pick) → AllByRecursion Fits (lines rs ps) → OneKind rs → ((k : Kind) → Separate (items_of e (s k) rs) (part k rs ps)) → EachTwo Apart (lines rs ps)
  apart_to s [] ps f one h = tt
  apart_to s (r ∷ rs) [] f one h = tt
  apart_to s (r ∷ rs) (p ∷ ps) f one h = (
    all_to r p (s r.kind) rs ps f.0 f.1 one.0 (λ j tp tj same. h r.kind 0 (suc j) (λ z. omega arith) tp tj same),
    apart_to s rs ps f.1 one.1 (λ k i j ne ti tj same. h k (suc i) (suc j) (λ z. ne (omega arith)) ti tj same),
  )

  -- a permanent load is never taken
  permanent_out : (rs : List (Record V)) (ps : List Pick) (j : ℕ) → takes (get_or (part Permanent rs ps) j None) ≡ 1 → ⊥
  permanent_out [] ps j h = omega arith
  permanent_out (r ∷ rs) [] j h = omega arith
  permanent_out (r ∷ rs) (p ∷ ps) zero h = out (is_of_kind Permanent r.kind) h
    where
      out : (b : Bool) → takes (cond b None None) ≡ 1 → ⊥
      out true h = omega arith
      out false h = omega arith
  permanent_out (r ∷ rs) (p ∷ ps) (suc j) h = permanent_out rs ps j h

  pub permanent_apart : (s : Percents) (rs : List (Record V)) (ps : List Pick) → Separate (items_of e s rs) (part Permanent rs ps)
  permanent_apart s rs ps i j ne ti tj same = absurd (permanent_out rs ps i ti)
