-- The sum of the contributions by a table of percentages is what the choice comes to.
use Rattle.std.proofs.Common.{◌≡◌, ℕ, ◌+◌, ◌*◌, ◌<◌, ◌≤◌, min, Bool, true, false, cond, eqb, List, [], ◌∷◌, length, get_or, take, sym, refl, ap, ◌∙◌, ap₂, arith, take_all}
use lib.ListN.{length-map}
use Rattle.effect.specs.Laws.{Operations, Laws, limit}
use Rattle.effect.specs.Sums.{total}
use Rattle.effect.proofs.Totals.{total_step}
use Rattle.loads.specs.declared.kinds.Kind.{Kind}
use Rattle.loads.specs.declared.kinds.Kind.TheVariants.{Permanent, LongTerm, ShortTerm, Special}
use Rattle.loads.specs.declared.records.Record.{Record}
use Rattle.norm.specs.Percentages.{Percentages, Ranged}
use Rattle.norm.specs.declared.roles.Role.TheVariants.{Leading, Second, Other}
use Rattle.norm.specs.declared.terms.Term.{Term}
use Rattle.norm.specs.declared.terms.Term.TheVariants.{Long, Short}
use Rattle.combination.specs.Choices.{Line, lines, is_taken, role}
use Rattle.combination.specs.Computing.{Asked, AskedFor, Bounded, by_role, by_table}
use Rattle.combination.specs.Worst.{factor, contribution, contributions, comes_to}
use Rattle.combination.specs.declared.percents.Percents.{Percents}
use Rattle.combination.specs.declared.percents.Table.{Table}
use Rattle.combination.specs.declared.picks.Pick.{Pick}
use Rattle.combination.specs.declared.picks.Pick.TheVariants.{Upper, Lower, Out, As, Taken}
use Rattle.combination.proofs.Contributions.{within}
use Rattle.combination.proofs.Places.{length_lines, map_lines_at}
use Rattle.combination.proofs.Ranges.{AtMostWhole, Kept, whole}

pub whole_table : (t : Table) → Bounded t.long → Bounded t.short → AtMostWhole (by_table t)
whole_table t long short Long i nl nt = long i
whole_table t long short Short i nl nt = short i

-- one turn of the loop
module _ {E : Type 0} (o : Operations E) (laws : Laws o) (norm : Percentages) (part : AtMostWhole norm) (records : List (Record E)) (picks : List Pick) where
  pub sum_step : (i : ℕ) (x : Record E) (p : Pick) (value sum next : E) → Kept o records → i < min (length records) (length picks) → x ≡ get_or records i x → p ≡ get_or picks i p
      → value ≡ contribution o norm 0 0 x.kind p x → sum ≡ total o (take i (contributions o norm 0 0 (lines records picks)))
      → (o.reach sum + o.reach value ≤ limit → next ≡ o.plus sum value) → next ≡ total o (take (i + 1) (contributions o norm 0 0 (lines records picks)))
  sum_step i x p value sum next kept h is that v s promised =
      let f : Line E → E = λ l. contribution o norm 0 0 l.0.kind l.1 l.0 in
      let all = contributions o norm 0 0 (lines records picks) in
      let short : i < length all = omega (arith, length-map (lines records picks) f, length_lines records picks) in
      let read : value ≡ get_or all i value = v ∙ ap₂ (λ y q. f (y, q)) is that ∙ sym (map_lines_at f records picks i x p value h) in
      total_step laws all i value sum next short read (within o laws norm part 0 0 records picks kept) s promised

  sum_all : (i : ℕ) → min (length records) (length picks) ≤ i → take i (contributions o norm 0 0 (lines records picks)) ≡ contributions o norm 0 0 (lines records picks)
  sum_all i h =
      let f : Line E → E = λ l. contribution o norm 0 0 l.0.kind l.1 l.0 in
      take_all _ _ (omega (arith, length-map (lines records picks) f, length_lines records picks))

either_most : (b : Bool) {m n : ℕ} → m ≤ 100 → n ≤ 100 → cond b m n ≤ 100
either_most true hm hn = hm
either_most false hm hn = hn

-- a table that was asked of a norm
module _ (norm : Percentages) (ranged : Ranged norm) (nl nt : ℕ) where
  module _ (term : Term) (ps : Percents) (asked : Asked norm term nl nt ps) where
    bounded : Bounded ps
    bounded i =
        either_most (eqb i 1) (omega (arith, asked.leading, whole norm ranged term 1 nl nt))
        (either_most (eqb i 2) (omega (arith, asked.second, whole norm ranged term 2 nl nt))
        (either_most (eqb i 3) (omega (arith, asked.other, whole norm ranged term 3 nl nt)) (omega arith)))

    none : by_role ps 0 ≡ norm term 0 nl nt
    none = sym ((ranged term 0 nl nt).1 refl)

    same_percent : (p : Pick) → by_role ps (role p) ≡ norm term (role p) nl nt
    same_percent Upper = none
    same_percent Lower = none
    same_percent Out = none
    same_percent (As Leading) = asked.leading
    same_percent (As Second) = asked.second
    same_percent (As Other) = asked.other
    same_percent Taken = none

  module _ {E : Type 0} (o : Operations E) (t : Table) (long : Asked norm Long nl nt t.long) (short : Asked norm Short nl nt t.short) where
    same_by : (p : Pick) (x : Record E) (m n : ℕ) → m ≡ n → cond (is_taken p) (o.times (x.load.upper * factor x * m) x.load.effect) o.nil ≡ cond (is_taken p) (o.times (x.load.upper * factor x * n) x.load.effect) o.nil
    same_by p x m n e = ap (λ k. cond (is_taken p) (o.times (x.load.upper * factor x * k) x.load.effect) o.nil) e

    same_at : (k : Kind) (p : Pick) (x : Record E) → contribution o (by_table t) 0 0 k p x ≡ contribution o norm nl nt k p x
    same_at Permanent p x = refl
    same_at LongTerm p x = same_by p x _ _ (same_percent Long t.long long p)
    same_at ShortTerm p x = same_by p x _ _ (same_percent Short t.short short p)
    same_at Special p x = refl

    same_contributions : (ls : List (Line E)) → contributions o (by_table t) 0 0 ls ≡ contributions o norm nl nt ls
    same_contributions [] = refl
    same_contributions (l ∷ ls) = ap₂ ◌∷◌ (same_at l.0.kind l.1 l.0) (same_contributions ls)

-- the end of the loop
pub summed : {E : Type 0} (o : Operations E) → Laws o → (norm : Percentages) (records : List (Record E)) (picks : List Pick) (t : Table) → AskedFor norm (lines records picks) t → (i : ℕ) (sum : E) → min (length records) (length picks) ≤ i
    → (Bounded t.long → Bounded t.short → sum ≡ total o (take i (contributions o (by_table t) 0 0 (lines records picks)))) → sum ≡ comes_to o norm (lines records picks)
summed o laws norm records picks t asked i sum past h =
    let ls = lines records picks in
    let long = bounded norm asked.ranged _ _ Long t.long asked.long in
    let short = bounded norm asked.ranged _ _ Short t.short asked.short in
    h long short
    ∙ ap (total o) (sum_all o laws (by_table t) (whole_table t long short) records picks i past ∙ same_contributions norm asked.ranged _ _ o t asked.long asked.short ls)
