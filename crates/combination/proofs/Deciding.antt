-- Admissible as a test, and a worst effect of few records by a test of every choice.
use Rattle.std.proofs.Common.{◌≡◌, ℕ, Bool, true, false, not, ◌&&◌, T, eqb, ltb, leb, List, [], ◌∷◌, length, sym, refl, subst, inl, inr, le→leb, eqb→eq, ltb→lt, lt→ltb, leb→le, T_not}
use lib.Dec.{not_T, eqb_refl}
use Rattle.std.specs.List.{AllByRecursion}
use Rattle.std.specs.Ordering.{is_le}
use Rattle.effect.specs.Laws.{Operations}
use Rattle.combination.specs.Lists.{Among, EachTwo}
use Rattle.combination.specs.Choices.{Line, lines, specials, taken, in_role, is_taken, Fits, Apart, Roles, Admissible}
use Rattle.norm.specs.Percentages.{Percentages}
use Rattle.combination.specs.Worst.{comes_to, Worst}
use Rattle.combination.proofs.Enumerating.{choices, among_choices}
use Rattle.loads.specs.declared.kinds.Kind.{Kind}
use Rattle.loads.specs.declared.kinds.Kind.TheVariants.{LongTerm, ShortTerm, Special}
use Rattle.combination.specs.declared.picks.Pick.{Pick}
use Rattle.combination.specs.declared.questions.Question.{Question}
use Rattle.loads.specs.declared.records.Record.{Record}

abbrev implies : Bool → Bool → Bool
implies true b = b
implies false b = true

implied : (a b : Bool) → (T a → T b) → T (implies a b)
implied true b h = h tt
implied false b h = tt

follows : (a b : Bool) → T (implies a b) → T a → T b
follows true b h t = h
follows false b h t = absurd t

both : (a b : Bool) → T a → T b → T (a && b)
both true b s t = t
both false b s t = absurd s

first : (a b : Bool) → T (a && b) → T a
first true b t = tt
first false b t = absurd t

second : (a b : Bool) → T (a && b) → T b
second true b t = t
second false b t = absurd t

T_true : (b : Bool) → T b → b ≡ true
T_true true t = refl
T_true false t = absurd t

eq_eqb : (m n : ℕ) → m ≡ n → T (eqb m n)
eq_eqb m n e = subst (λ k. T (eqb m k)) e (eqb_refl m)

abbrev all_of : {X : Type 0} → List X → (X → Bool) → Bool
all_of [] p = true
all_of (x ∷ xs) p = p x && all_of xs p

abbrev each_two : {X : Type 0} → (X → X → Bool) → List X → Bool
each_two r [] = true
each_two r (x ∷ xs) = all_of xs (r x) && each_two r xs

all_of_from : {X : Type 0} (P : X → Type 0) (p : X → Bool) → ((x : X) → P x → T (p x)) → (xs : List X) → AllByRecursion P xs → T (all_of xs p)
all_of_from P p f [] h = tt
all_of_from P p f (x ∷ xs) h = both (p x) _ (f x h.0) (all_of_from P p f xs h.1)

all_of_to : {X : Type 0} (P : X → Type 0) (p : X → Bool) → ((x : X) → T (p x) → P x) → (xs : List X) → T (all_of xs p) → AllByRecursion P xs
all_of_to P p f [] h = tt
all_of_to P p f (x ∷ xs) h = (f x (first (p x) _ h), all_of_to P p f xs (second (p x) _ h))

each_two_from : {X : Type 0} (R : X → X → Type 0) (r : X → X → Bool) → ((x y : X) → R x y → T (r x y)) → (xs : List X) → EachTwo R xs → T (each_two r xs)
each_two_from R r f [] h = tt
each_two_from R r f (x ∷ xs) h = both (all_of xs (r x)) _ (all_of_from (R x) (r x) (f x) xs h.0) (each_two_from R r f xs h.1)

each_two_to : {X : Type 0} (R : X → X → Type 0) (r : X → X → Bool) → ((x y : X) → T (r x y) → R x y) → (xs : List X) → T (each_two r xs) → EachTwo R xs
each_two_to R r f [] h = tt
each_two_to R r f (x ∷ xs) h = (all_of_to (R x) (r x) (f x) xs (first (all_of xs (r x)) _ h), each_two_to R r f xs (second (all_of xs (r x)) _ h))

-- a test that all of a list pass is passed by each that is among them
all_of_among : {X : Type 0} (xs : List X) (p : X → Bool) → T (all_of xs p) → (x : X) → Among xs x → T (p x)
all_of_among [] p h x m = absurd m
all_of_among (y ∷ ys) p h x (inl e) = subst (λ z. T (p z)) (sym e) (first (p y) _ h)
all_of_among (y ∷ ys) p h x (inr m) = all_of_among ys p (second (p y) _ h) x m

-- admissible, as a test of lines that fit

module _ {E : Type 0} where
  abbrev roles_test : Kind → List (Line E) → Bool
  roles_test k ls = implies (ltb 0 (taken k ls)) (eqb (in_role k 1 ls) 1) && (implies (ltb 1 (taken k ls)) (eqb (in_role k 2 ls) 1) && implies (leb (taken k ls) 1) (eqb (in_role k 2 ls) 0))

  abbrev apart_test : Line E → Line E → Bool
  apart_test l m = implies (is_taken l.1) (implies (is_taken m.1) (not (ltb 0 l.0.load.group && eqb l.0.load.group m.0.load.group)))

  abbrev pub test : Question → List (Line E) → Bool
  test q ls = eqb (taken Special ls) (specials q) && (roles_test LongTerm ls && (roles_test ShortTerm ls && each_two apart_test ls))

  roles_from : (k : Kind) (ls : List (Line E)) → Roles k ls → T (roles_test k ls)
  roles_from k ls r =
      both (implies (ltb 0 (taken k ls)) _) _ (implied _ _ (λ t. eq_eqb _ _ (r.leading (ltb→lt _ _ t))))
      (both (implies (ltb 1 (taken k ls)) _) _ (implied _ _ (λ t. eq_eqb _ _ (r.second (ltb→lt _ _ t)))) (implied _ _ (λ t. eq_eqb _ _ (r.no_second (leb→le _ _ t)))))

  roles_to : (k : Kind) (ls : List (Line E)) → T (roles_test k ls) → Roles k ls
  roles_to k ls t =
      let rest = second (implies (ltb 0 (taken k ls)) _) _ t in
      record {
        leading = λ h. eqb→eq _ _ (follows (ltb 0 (taken k ls)) _ (first _ _ t) (lt→ltb _ _ h));
        second = λ h. eqb→eq _ _ (follows (ltb 1 (taken k ls)) _ (first _ _ rest) (lt→ltb _ _ h));
        no_second = λ h. eqb→eq _ _ (follows (leb (taken k ls) 1) _ (second (implies (ltb 1 (taken k ls)) _) _ rest) (le→leb _ _ h));
      }

  apart_from : (l m : Line E) → Apart l m → T (apart_test l m)
  apart_from l m h = implied (is_taken l.1) _ (λ tl. implied (is_taken m.1) _ (λ tm. not_T _ (λ s. h tl tm (ltb→lt _ _ (first (ltb 0 l.0.load.group) _ s), eqb→eq _ _ (second (ltb 0 l.0.load.group) _ s)))))

  apart_to : (l m : Line E) → T (apart_test l m) → Apart l m
  apart_to l m t tl tm s = T_not (ltb 0 l.0.load.group && eqb l.0.load.group m.0.load.group) (follows (is_taken m.1) _ (follows (is_taken l.1) _ t tl) tm) (both (ltb 0 l.0.load.group) _ (lt→ltb _ _ s.0) (eq_eqb _ _ s.1))

  pub test_from : (q : Question) (records : List (Record E)) (ps : List Pick) → Admissible q records ps → T (test q (lines records ps))
  test_from q records ps h =
      both (eqb (taken Special (lines records ps)) (specials q)) _ (eq_eqb _ _ h.special)
      (both (roles_test LongTerm (lines records ps)) _ (roles_from LongTerm _ h.long_roles)
      (both (roles_test ShortTerm (lines records ps)) _ (roles_from ShortTerm _ h.short_roles) (each_two_from Apart apart_test apart_from (lines records ps) h.groups)))

  pub test_to : (q : Question) (records : List (Record E)) (ps : List Pick) → length ps ≡ length records → AllByRecursion Fits (lines records ps) → T (test q (lines records ps)) → Admissible q records ps
  test_to q records ps e f t =
      let ls = lines records ps in
      let t₁ = second (eqb (taken Special ls) (specials q)) _ t in
      let t₂ = second (roles_test LongTerm ls) _ t₁ in
      record {
        parallel = e;
        fitting = f;
        special = eqb→eq _ _ (first (eqb (taken Special ls) (specials q)) _ t);
        long_roles = roles_to LongTerm ls (first (roles_test LongTerm ls) _ t₁);
        short_roles = roles_to ShortTerm ls (first (roles_test ShortTerm ls) _ t₂);
        groups = each_two_to Apart apart_test apart_to ls (second (roles_test ShortTerm ls) _ t₂);
      }

module _ {E : Type 0} (o : Operations E) (norm : Percentages) (q : Question) (records : List (Record E)) (ps : List Pick) (e : E) where
  -- no other choice comes to more
  abbrev pub unbeaten : Bool
  unbeaten = all_of (choices records) (λ other. implies (test q (lines records other)) (is_le (o.order (comes_to o norm (lines records other)) e)))

  pub worst_by_test : length ps ≡ length records → AllByRecursion Fits (lines records ps) → T (test q (lines records ps)) → comes_to o norm (lines records ps) ≡ e → T unbeaten → Worst o norm q records ps e
  worst_by_test len fit t is u = record {
    admissible = test_to q records ps len fit t;
    reached = is;
    greatest = λ other h. T_true _ (follows (test q (lines records other)) _ (all_of_among (choices records) _ u other (among_choices records other h.parallel h.fitting)) (test_from q records other h));
  }
