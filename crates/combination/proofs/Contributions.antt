-- A contribution's reach is bounded, and it depends on the kind and the design loads alone.
use Rattle.std.proofs.Common.{◌≡◌, ℕ, ◌*◌, ◌≤◌, Bool, true, false, cond, List, [], ◌∷◌, length, sym, ap, ◌∙◌, subst, mul_comm, mul-le-mul, arith}
use mathlib.Core.List.{head-eq_of_cons-eq, tail-eq_of_cons-eq}
use Rattle.std.specs.List.{AllByRecursion}
use Rattle.effect.specs.Laws.{Operations, Laws, limit}
use Rattle.combination.specs.Choices.{lines, is_lower, is_taken, role}
use Rattle.combination.proofs.Ranges.{AtMostWhole, InRange, Kept, Reduction}
use Rattle.combination.specs.Loads.{design_loads, Partners}
use Rattle.combination.specs.Worst.{factor, contribution, contributions}
use Rattle.norm.specs.Percentages.{Percentages}
use Rattle.effect.specs.Sums.{reaches}
use Rattle.loads.specs.declared.kinds.Kind.{Kind}
use Rattle.loads.specs.declared.kinds.Kind.TheVariants.{Permanent, LongTerm, ShortTerm, Special}
use Rattle.combination.specs.declared.picks.Pick.{Pick}
use Rattle.loads.specs.declared.records.Record.{Record}
use Rattle.norm.specs.declared.terms.Term.TheVariants.{Long, Short}

-- the largest reach of a contribution; 32 of them are limit
abbrev pub MOST : ℕ
MOST = 200000000000000000

-- the factors of a load in a term
pub times_all : {u f p : ℕ} → u ≤ 200 → f ≤ 10000 → p ≤ 100 → u * f * p ≤ 200000000
times_all hu hf hp = mul-le-mul (mul-le-mul hu hf) hp

pub reduction_most : (k : Kind) (f : ℕ) → Reduction k f → f ≤ 10000
reduction_most Permanent f h = omega arith
reduction_most LongTerm f h = omega arith
reduction_most ShortTerm f h = h
reduction_most Special f h = omega arith

pub chosen_most : (b : Bool) {l u : ℕ} → l ≤ 200 → u ≤ 200 → cond b l u ≤ 200
chosen_most true hl hu = hl
chosen_most false hl hu = hu

pub multiple_within : (n r : ℕ) → n ≤ 200000000 → r ≤ 1000000000 → n * r ≤ limit
multiple_within n r hn hr =
    let most : n * r ≤ 200000000 * 1000000000 = mul-le-mul hn hr in
    omega arith

module _ {E : Type 0} (o : Operations E) (laws : Laws o) where
  reach_multiple : (n : ℕ) (e : E) → n ≤ 200000000 → o.reach e ≤ 1000000000 → o.reach (o.times n e) ≤ MOST
  reach_multiple n e hn he =
      let most : n * o.reach e ≤ 200000000 * 1000000000 = mul-le-mul hn he in
      omega (arith, laws.reach_times n e (omega arith))

  -- a load times a percentage
  scaled : (n p : ℕ) (e : E) → n ≤ 2000000 → p ≤ 100 → o.reach e ≤ 1000000000 → o.times (n * p) e ≡ o.times p (o.times n e)
  scaled n p e hn hp he =
      let one : n * o.reach e ≤ 2000000 * 1000000000 = mul-le-mul hn he in
      let all : p * (n * o.reach e) ≤ 100 * (2000000 * 1000000000) = mul-le-mul hp one in
      ap (λ k. o.times k e) (mul_comm n p) ∙ sym (laws.times_times p n e (omega arith) (omega arith))

  -- a load times a million, in hundredths
  whole : (u : ℕ) (e : E) → u ≤ 200 → o.reach e ≤ 1000000000 → o.times (u * 1000000) e ≡ o.times 100 (o.times (u * 10000) e)
  whole u e hu he = ap (λ k. o.times k e) (omega arith) ∙ scaled (u * 10000) 100 e (omega arith) (omega arith) he

  reach_nil : o.reach o.nil ≤ MOST
  reach_nil = omega (arith, laws.reach_nil)

  -- what counts only where it is taken
  reach_taken : (b : Bool) (n : ℕ) (e : E) → n ≤ 200000000 → o.reach e ≤ 1000000000 → o.reach (cond b (o.times n e) o.nil) ≤ MOST
  reach_taken true n e hn he = reach_multiple n e hn he
  reach_taken false n e hn he = reach_nil

  module _ (norm : Percentages) (part : AtMostWhole norm) (nl nt : ℕ) where
    reach_at : (k : Kind) (p : Pick) (r : Record E) → o.reach r.load.effect ≤ 1000000000 → r.load.upper ≤ 200 → r.load.lower ≤ 200 → Reduction k (factor r) → o.reach (contribution o norm nl nt k p r) ≤ MOST
    reach_at Permanent p r he hu hl hf = reach_multiple _ _ (omega (arith, chosen_most (is_lower p) hl hu)) he
    reach_at LongTerm p r he hu hl hf = reach_taken (is_taken p) _ _ (times_all hu (omega arith) (part Long (role p) nl nt)) he
    reach_at ShortTerm p r he hu hl hf = reach_taken (is_taken p) _ _ (times_all hu hf (part Short (role p) nl nt)) he
    reach_at Special p r he hu hl hf = reach_taken (is_taken p) _ _ (omega arith) he

    pub reach_contribution : (p : Pick) (r : Record E) → InRange o r → o.reach (contribution o norm nl nt r.kind p r) ≤ MOST
    reach_contribution p r h = reach_at r.kind p r h.reach h.upper h.lower h.reduction

    -- the contributions of all records stay within limit
    reaches_lines : (records : List (Record E)) (ps : List Pick) → AllByRecursion (InRange o) records → reaches o (contributions o norm nl nt (lines records ps)) ≤ length records * MOST
    reaches_lines [] ps h = omega arith
    reaches_lines (r ∷ rs) [] h = omega arith
    reaches_lines (r ∷ rs) (p ∷ ps) h = omega (arith, reach_contribution p r h.0, reaches_lines rs ps h.1)

    pub within : (records : List (Record E)) (ps : List Pick) → Kept o records → reaches o (contributions o norm nl nt (lines records ps)) ≤ limit
    within records ps kept = omega (arith, reaches_lines records ps kept.in_range)

    -- equal design loads contribute the same, at one kind
    module _ (x y : Record E) (hx : InRange o x) (hy : InRange o y) where
      same_permanent : (b : Bool) → design_loads o Permanent x ≡ design_loads o Permanent y → o.times (cond b x.load.lower x.load.upper * 1000000) x.load.effect ≡ o.times (cond b y.load.lower y.load.upper * 1000000) y.load.effect
      same_permanent true e = whole _ _ hx.lower hx.reach ∙ ap (o.times 100) (head-eq_of_cons-eq (tail-eq_of_cons-eq e)) ∙ sym (whole _ _ hy.lower hy.reach)
      same_permanent false e = whole _ _ hx.upper hx.reach ∙ ap (o.times 100) (head-eq_of_cons-eq e) ∙ sym (whole _ _ hy.upper hy.reach)

      same_scaled : (p : ℕ) → p ≤ 100 → factor x ≤ 10000 → factor y ≤ 10000 → o.times (x.load.upper * factor x) x.load.effect ∷ [] ≡ o.times (y.load.upper * factor y) y.load.effect ∷ [] → o.times (x.load.upper * factor x * p) x.load.effect ≡ o.times (y.load.upper * factor y * p) y.load.effect
      same_scaled p hp fx fy e =
          scaled _ p _ (mul-le-mul hx.upper fx) hp hx.reach ∙ ap (o.times p) (head-eq_of_cons-eq e) ∙ sym (scaled _ p _ (mul-le-mul hy.upper fy) hp hy.reach)

      same_at : (k : Kind) (p : Pick) → Reduction k (factor x) → Reduction k (factor y) → design_loads o k x ≡ design_loads o k y → contribution o norm nl nt k p x ≡ contribution o norm nl nt k p y
      same_at Permanent p fx fy e = same_permanent (is_lower p) e
      same_at LongTerm p fx fy e = ap (λ c. cond (is_taken p) c o.nil) (same_scaled (norm Long (role p) nl nt) (part _ _ _ _) (omega arith) (omega arith) e)
      same_at ShortTerm p fx fy e = ap (λ c. cond (is_taken p) c o.nil) (same_scaled (norm Short (role p) nl nt) (part _ _ _ _) fx fy e)
      same_at Special p fx fy e =
          let full : (u f : ℕ) → f ≡ 10000 → u * 1000000 ≡ u * f * 100 = λ u f h. rw h (omega arith) in
          ap (λ c. cond (is_taken p) c o.nil) (ap (λ n. o.times n x.load.effect) (full _ _ fx) ∙ same_scaled 100 (omega arith) (omega arith) (omega arith) e ∙ sym (ap (λ n. o.times n y.load.effect) (full _ _ fy)))

      pub same_contribution : (p : Pick) → Partners o x y → contribution o norm nl nt x.kind p x ≡ contribution o norm nl nt y.kind p y
      same_contribution p h =
          let At : Kind → Type 0 = λ k. Reduction k (factor y) → design_loads o x.kind x ≡ design_loads o k y → contribution o norm nl nt x.kind p x ≡ contribution o norm nl nt k p y in
          subst At h.kinds (same_at x.kind p hx.reduction) hy.reduction h.loads
