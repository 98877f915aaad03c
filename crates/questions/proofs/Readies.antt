-- Records within their bounds: what they contribute stays within the limit.
use Rattle.std.proofs.Common.{◌≡◌, ℕ, ◌*◌, ◌<◌, ◌≤◌, List, [], ◌∷◌, length, get_or, sym, ap, ◌∙◌, subst, mul-le-mul, arith}
use lib.ListN.{length-map}
use Rattle.std.proofs.ByRecursion.{All-get_or}
use Rattle.std.proofs.lemmas.List.{get_or-map}
use Rattle.std.specs.List.{AllByRecursion}
use Rattle.effect.specs.Laws.{Operations, Laws}
use Rattle.combination.specs.Worst.{factor}
use Rattle.questions.specs.PartChoices.{Light, Small, group_of, group_at}
use Rattle.questions.specs.Items.{share, item_of, items_of, weight_of, Reduction, InRange, Kept, Weighed, Whole}
use Rattle.combination.specs.declared.percents.Percents.{Percents}
use Rattle.loads.specs.declared.kinds.Kind.{Kind}
use Rattle.loads.specs.declared.kinds.Kind.TheVariants.{Permanent, LongTerm, ShortTerm, Special}
use Rattle.loads.specs.declared.records.Record.{Record}
use Rattle.questions.proofs.Lights.{light_from_small}

-- the largest reach of a contribution; 32 of them are the limit
abbrev pub most : ℕ
most = 200000000000000000

pub times_all : {u f p : ℕ} → u ≤ 200 → f ≤ 10000 → p ≤ 100 → u * f * p ≤ 200000000
times_all hu hf hp = mul-le-mul (mul-le-mul hu hf) hp

pub reduction_most : (k : Kind) (f : ℕ) → Reduction k f → f ≤ 10000
reduction_most Permanent f h = omega arith
reduction_most LongTerm f h = omega arith
reduction_most ShortTerm f h = h
reduction_most Special f h = omega arith

pub multiple_within : (n r : ℕ) → n ≤ 200000000 → r ≤ 1000000000 → n * r ≤ most
multiple_within n r hn hr = mul-le-mul hn hr

-- a record's weight at a percentage
pub weight_most : {V : Type 0} (e : Operations V) (r : Record V) (p : ℕ) → InRange e r → p ≤ 100 → weight_of r * p ≤ 200000000
weight_most e r p h hp = times_all h.upper (reduction_most r.kind (factor r) h.reduction) hp

module _ {V : Type 0} {e : Operations V} (laws : Laws e) where
  pub reach_multiple : (n : ℕ) (x : V) → n ≤ 200000000 → e.reach x ≤ 1000000000 → e.reach (e.times n x) ≤ most
  reach_multiple n x hn hx =
      let all : n * e.reach x ≤ most = multiple_within n (e.reach x) hn hx in
      omega (arith, laws.reach_times n x (omega arith))

  pub reach_share : (r : Record V) (p : ℕ) → InRange e r → p ≤ 100 → e.reach (share e r p) ≤ most
  reach_share r p h hp = reach_multiple (weight_of r * p) r.load.effect (weight_most e r p h hp) h.reach

  pub small_item : (s : Percents) (r : Record V) → InRange e r → Whole s → Small e most (item_of e s r)
  small_item s r h w = record { leading = reach_share r s.leading h w.leading; second = reach_share r s.second h w.second; other = reach_share r s.other h w.other }

  small_items : (s : Percents) (rs : List (Record V)) → AllByRecursion (InRange e) rs → Whole s → AllByRecursion (Small e most) (items_of e s rs)
  small_items s [] h w = tt
  small_items s (r ∷ rs) h w = (small_item s r h.0 w, small_items s rs h.1 w)

  pub light_of : (s : Percents) (rs : List (Record V)) → Kept e rs → Whole s → Light e (items_of e s rs)
  light_of s rs kept whole = light_from_small laws most (items_of e s rs) (omega (arith, length-map rs (item_of e s), kept.few)) (omega arith) (small_items s rs kept.in_range whole)

module _ {V : Type 0} (e : Operations V) (s : Percents) (rs : List (Record V)) where
  pub same_length : length (items_of e s rs) ≡ length rs
  same_length = length-map rs (item_of e s)

  -- a record that was read, as an item
  pub item_read : (k : ℕ) (r : Record V) → k < length rs → r ≡ get_or rs k r → item_of e s r ≡ get_or (items_of e s rs) k (item_of e s r)
  item_read k r h is = ap (item_of e s) is ∙ sym (get_or-map (item_of e s) rs k r (item_of e s r) h)

  pub group_shown : (k : ℕ) (r : Record V) → k < length rs → group_at (items_of e s rs) k ≡ (get_or rs k r).load.group
  group_shown k r h = get_or-map group_of (items_of e s rs) k (item_of e s r) 0 (omega (arith, same_length)) ∙ ap group_of (get_or-map (item_of e s) rs k r (item_of e s r) h)

-- a record that was read from a list
pub in_range_at : {V : Type 0} (e : Operations V) (rs : List (Record V)) (k : ℕ) (r : Record V) → r ≡ get_or rs k r → k < length rs → AllByRecursion (InRange e) rs → InRange e r
in_range_at e rs k r is h all = subst (InRange e) (sym is) (All-get_or (InRange e) rs k r h all)

-- and its weight
pub weighed_at : {V : Type 0} (ws : List ℕ) (rs : List (Record V)) (k : ℕ) (r : Record V) → r ≡ get_or rs k r → k < length rs → Weighed ws rs → get_or ws k 0 ≡ weight_of r
weighed_at ws rs k r is h all = all k r h ∙ ap weight_of (sym is)
