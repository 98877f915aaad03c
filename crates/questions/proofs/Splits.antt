-- What a choice comes to is the sum of its parts.
use Rattle.std.proofs.Common.{◌≡◌, ℕ, ◌+◌, ◌*◌, ◌≤◌, Bool, true, false, cond, List, [], ◌∷◌, length, Ordering, Less, Equal, Greater, sym, refl, ap, ◌∙◌, subst, ap₂, inl, inr, arith, None, Option}
use Rattle.std.specs.List.{AllByRecursion}
use Rattle.effect.specs.Laws.{Operations, Laws, limit}
use Rattle.effect.specs.Sums.{total}
use Rattle.norm.specs.Percentages.{Percentages}
use Rattle.norm.specs.declared.terms.Term.{Term}
use Rattle.norm.specs.declared.terms.Term.TheVariants.{Long, Short}
use Rattle.questions.specs.PartChoices.{worth, comes, Small}
use Rattle.effect.specs.Laws.{AtMost}
use Rattle.questions.specs.Items.{full, Item, item_of, items_of, InRange, Reduction, Whole}
use Rattle.combination.specs.declared.percents.Percents.{Percents}
use Rattle.norm.specs.declared.roles.Role.{Role}
use Rattle.loads.specs.declared.kinds.Kind.{Kind}
use Rattle.loads.specs.declared.kinds.Kind.TheVariants.{Permanent, LongTerm, ShortTerm, Special}
use Rattle.loads.specs.declared.records.Record.{Record}
use Rattle.questions.proofs.Lights.{small_worth}
use Rattle.effect.proofs.AtMost.{turn, at_most_same, at_most_under}
use Rattle.effect.proofs.Derived.{nil_plus, plus_at_most}
use Rattle.questions.proofs.Readies.{most, reach_multiple, small_item}
use Rattle.combination.specs.Choices.{is_of_kind, is_lower, lines, picks_for, Fits}
use Rattle.combination.specs.Lists.{Among, count}
use Rattle.questions.specs.Parts.{plain, lone, role_at, part, granted, fixed, fixed_sum, by_order, best_factor}
use Rattle.combination.specs.Worst.{factor, permanent, temporary, special, contribution, contributions}
use Rattle.combination.specs.declared.picks.Pick.{Pick}
use Rattle.combination.specs.declared.picks.Pick.TheVariants as pick
use Rattle.norm.specs.declared.roles.Role.TheVariants as norm_role

not_plain : Among (picks_for LongTerm) pick.Taken → ⊥
not_plain (inl h) = let z : ◌≡◌ {A = ℕ} 0 1 = cc in omega arith
not_plain (inr (inl h)) = let z : ◌≡◌ {A = ℕ} 0 1 = cc in omega arith
not_plain (inr (inr (inl h))) = let z : ◌≡◌ {A = ℕ} 0 1 = cc in omega arith
not_plain (inr (inr (inr (inl h)))) = let z : ◌≡◌ {A = ℕ} 0 1 = cc in omega arith
not_plain (inr (inr (inr (inr h)))) = h

-- how many records are of a kind
abbrev pub kinds : {V : Type 0} → Kind → List (Record V) → ℕ
kinds k rs = count (λ r. is_of_kind k r.kind) rs

one_kind : (kd : Kind) → cond (is_of_kind Permanent kd) 1 0 + cond (is_of_kind LongTerm kd) 1 0 + cond (is_of_kind ShortTerm kd) 1 0 + cond (is_of_kind Special kd) 1 0 ≡ 1
one_kind Permanent = refl
one_kind LongTerm = refl
one_kind ShortTerm = refl
one_kind Special = refl

pub kinds_sum : {V : Type 0} (rs : List (Record V)) → kinds Permanent rs + kinds LongTerm rs + kinds ShortTerm rs + kinds Special rs ≡ length rs
kinds_sum [] = refl
kinds_sum (r ∷ rs) = omega (arith, one_kind r.kind, kinds_sum rs)

pub chosen_most : (b : Bool) {l u : ℕ} → l ≤ 200 → u ≤ 200 → cond b l u ≤ 200
chosen_most true hl hu = hl
chosen_most false hl hu = hu

module _ {V : Type 0} {e : Operations V} (laws : Laws e) where
  into : (c p x : V) → e.reach c + e.reach p + e.reach x ≤ limit → e.plus c (e.plus p x) ≡ e.plus p (e.plus c x)
  into c p x h = sym (laws.plus_assoc c p x h) ∙ ap (λ (y : V). e.plus y x) (laws.plus_comm c p (omega arith)) ∙ laws.plus_assoc p c x (omega arith)

  reach_permanent : (p : Pick) (r : Record V) → InRange e r → e.reach (permanent e p r) ≤ most
  reach_permanent p r h =
      let c : cond (is_lower p) r.load.lower r.load.upper ≤ 200 = chosen_most (is_lower p) h.lower h.upper in
      reach_multiple laws (cond (is_lower p) r.load.lower r.load.upper * 1000000) r.load.effect (omega arith) h.reach

  heads : (b : Bool) (x rest : V) (n : ℕ) → e.reach x ≤ cond b most 0 → e.reach rest ≤ n * most → cond b 1 0 + n ≤ 32 → e.reach (e.plus x rest) ≤ (cond b 1 0 + n) * most
  heads true x rest n hx hr few = omega (arith, laws.reach_plus x rest (omega arith))
  heads false x rest n hx hr few = omega (arith, laws.reach_plus x rest (omega arith))

  worth_bound : (it : Item V) (b : Bool) (x : Option Role) → Small e most it → e.reach (worth e it (cond b x None)) ≤ cond b most 0
  worth_bound it true x h = small_worth laws most it x h
  worth_bound it false x h = omega (arith, laws.reach_nil)

  pub reach_part : (k : Kind) (s : Percents) → Whole s → (rs : List (Record V)) (ps : List Pick) → AllByRecursion (InRange e) rs → kinds k rs ≤ 32 → e.reach (comes e (items_of e s rs) (part k rs ps)) ≤ kinds k rs * most
  reach_part k s w [] ps h few = omega (arith, laws.reach_nil)
  reach_part k s w (r ∷ rs) [] h few = omega (arith, laws.reach_nil)
  reach_part k s w (r ∷ rs) (p ∷ ps) h few =
      heads (is_of_kind k r.kind) (worth e (item_of e s r) (cond (is_of_kind k r.kind) (role_at k p) None)) (comes e (items_of e s rs) (part k rs ps)) (kinds k rs)
      (worth_bound (item_of e s r) (is_of_kind k r.kind) (role_at k p) (small_item laws s r h.0 w))
      (reach_part k s w rs ps h.1 (omega arith)) few

  pub fixed_bound : (kd : Kind) (p : Pick) (r : Record V) → InRange e r → e.reach (fixed e kd p r) ≤ cond (is_of_kind Permanent kd) most 0
  fixed_bound Permanent p r h = reach_permanent p r h
  fixed_bound LongTerm p r h = omega (arith, laws.reach_nil)
  fixed_bound ShortTerm p r h = omega (arith, laws.reach_nil)
  fixed_bound Special p r h = omega (arith, laws.reach_nil)

  pub reach_fixed : (rs : List (Record V)) (ps : List Pick) → AllByRecursion (InRange e) rs → kinds Permanent rs ≤ 32 → e.reach (fixed_sum e rs ps) ≤ kinds Permanent rs * most
  reach_fixed [] ps h few = omega (arith, laws.reach_nil)
  reach_fixed (r ∷ rs) [] h few = omega (arith, laws.reach_nil)
  reach_fixed (r ∷ rs) (p ∷ ps) h few =
      heads (is_of_kind Permanent r.kind) (fixed e r.kind p r) (fixed_sum e rs ps) (kinds Permanent rs)
      (fixed_bound r.kind p r h.0) (reach_fixed rs ps h.1 (omega arith)) few

  -- the sum of four parts
  abbrev pub four : V → V → V → V → V
  four p l t s = e.plus p (e.plus l (e.plus t s))

  module _ (norm : Percentages) (part-most : (t : Term) (i nl nt : ℕ) → norm t i nl nt ≤ 100) (nl nt : ℕ) where
    worth_plain : (t : Term) (p : Pick) (r : Record V) → Among (picks_for LongTerm) p → temporary e (λ i. norm t i nl nt) p r ≡ worth e (item_of e (granted norm t nl nt) r) (plain p)
    worth_plain t pick.Upper r h = refl
    worth_plain t pick.Lower r h = refl
    worth_plain t pick.Out r h = refl
    worth_plain t (pick.As norm_role.Leading) r h = refl
    worth_plain t (pick.As norm_role.Second) r h = refl
    worth_plain t (pick.As norm_role.Other) r h = refl
    worth_plain t pick.Taken r h = absurd (not_plain h)

    whole_share : (r : Record V) → factor r ≡ 10000 → e.times (r.load.upper * 1000000) r.load.effect ≡ e.times (r.load.upper * factor r * 100) r.load.effect
    whole_share r h =
        let a : r.load.upper * 1000000 ≡ r.load.upper * 10000 * 100 = omega arith in
        ap (λ (n : ℕ). e.times n r.load.effect) (a ∙ ap (λ (f : ℕ). r.load.upper * f * 100) (sym h))

    worth_lone : (p : Pick) (r : Record V) → factor r ≡ 10000 → special e p r ≡ worth e (item_of e full r) (lone p)
    worth_lone pick.Upper r h = refl
    worth_lone pick.Lower r h = refl
    worth_lone pick.Out r h = refl
    worth_lone (pick.As i) r h = whole_share r h
    worth_lone pick.Taken r h = whole_share r h

    -- one record's contribution, put among the parts
    step : (kd : Kind) (p : Pick) (r : Record V) → Among (picks_for kd) p → Reduction kd (factor r) → (x l t s : V) → e.reach (fixed e kd p r) + e.reach x + (e.reach (worth e (item_of e (granted norm Long nl nt) r) (cond (is_of_kind LongTerm kd) (plain p) None)) + e.reach l) + (e.reach (worth e (item_of e (granted norm Short nl nt) r) (cond (is_of_kind ShortTerm kd) (plain p) None)) + e.reach t) + (e.reach (worth e (item_of e full r) (cond (is_of_kind Special kd) (lone p) None)) + e.reach s) ≤ limit → e.plus (contribution e norm nl nt kd p r) (four x l t s) ≡ four (e.plus (fixed e kd p r) x) (e.plus (worth e (item_of e (granted norm Long nl nt) r) (cond (is_of_kind LongTerm kd) (plain p) None)) l) (e.plus (worth e (item_of e (granted norm Short nl nt) r) (cond (is_of_kind ShortTerm kd) (plain p) None)) t) (e.plus (worth e (item_of e full r) (cond (is_of_kind Special kd) (lone p) None)) s)
    step kd p r f red x l t s h = go kd f red h
      where
        ts : e.reach t + e.reach s ≤ limit → e.reach (e.plus t s) ≤ e.reach t + e.reach s
        ts b = laws.reach_plus t s b

        lts : e.reach l + e.reach t + e.reach s ≤ limit → e.reach (e.plus l (e.plus t s)) ≤ e.reach l + e.reach t + e.reach s
        lts b = omega (arith, ts (omega arith), laws.reach_plus l (e.plus t s) (omega (arith, ts (omega arith))))

        go : (kd : Kind) → Among (picks_for kd) p → Reduction kd (factor r) → e.reach (fixed e kd p r) + e.reach x + (e.reach (worth e (item_of e (granted norm Long nl nt) r) (cond (is_of_kind LongTerm kd) (plain p) None)) + e.reach l) + (e.reach (worth e (item_of e (granted norm Short nl nt) r) (cond (is_of_kind ShortTerm kd) (plain p) None)) + e.reach t) + (e.reach (worth e (item_of e full r) (cond (is_of_kind Special kd) (lone p) None)) + e.reach s) ≤ limit → e.plus (contribution e norm nl nt kd p r) (four x l t s) ≡ four (e.plus (fixed e kd p r) x) (e.plus (worth e (item_of e (granted norm Long nl nt) r) (cond (is_of_kind LongTerm kd) (plain p) None)) l) (e.plus (worth e (item_of e (granted norm Short nl nt) r) (cond (is_of_kind ShortTerm kd) (plain p) None)) t) (e.plus (worth e (item_of e full r) (cond (is_of_kind Special kd) (lone p) None)) s)
        go Permanent f red h =
            let c : V = permanent e p r in
            let nl : e.plus e.nil l ≡ l = nil_plus laws l (omega arith) in
            let nt : e.plus e.nil t ≡ t = nil_plus laws t (omega arith) in
            let ns : e.plus e.nil s ≡ s = nil_plus laws s (omega arith) in
            let b : e.reach (e.plus l (e.plus t s)) ≤ e.reach l + e.reach t + e.reach s = lts (omega arith) in
            sym (laws.plus_assoc c x (e.plus l (e.plus t s)) (omega arith))
            ∙ ap₂ (λ (y z : V). e.plus (e.plus c x) (e.plus y z)) (sym nl) (ap₂ e.plus (sym nt) (sym ns))
        go LongTerm f red h =
            let c : V = worth e (item_of e (granted norm Long nl nt) r) (plain p) in
            let nx : e.plus e.nil x ≡ x = nil_plus laws x (omega arith) in
            let nt : e.plus e.nil t ≡ t = nil_plus laws t (omega arith) in
            let ns : e.plus e.nil s ≡ s = nil_plus laws s (omega arith) in
            let b : e.reach (e.plus l (e.plus t s)) ≤ e.reach l + e.reach t + e.reach s = lts (omega arith) in
            let d : e.reach (e.plus t s) ≤ e.reach t + e.reach s = ts (omega arith) in
            ap (λ (y : V). e.plus y (four x l t s)) (worth_plain Long p r f)
            ∙ into c x (e.plus l (e.plus t s)) (omega arith)
            ∙ ap (e.plus x) (sym (laws.plus_assoc c l (e.plus t s) (omega arith)))
            ∙ ap₂ (λ (y z : V). e.plus y (e.plus (e.plus c l) z)) (sym nx) (ap₂ e.plus (sym nt) (sym ns))
        go ShortTerm f red h =
            let c : V = worth e (item_of e (granted norm Short nl nt) r) (plain p) in
            let nx : e.plus e.nil x ≡ x = nil_plus laws x (omega arith) in
            let nl : e.plus e.nil l ≡ l = nil_plus laws l (omega arith) in
            let ns : e.plus e.nil s ≡ s = nil_plus laws s (omega arith) in
            let b : e.reach (e.plus l (e.plus t s)) ≤ e.reach l + e.reach t + e.reach s = lts (omega arith) in
            let d : e.reach (e.plus t s) ≤ e.reach t + e.reach s = ts (omega arith) in
            ap (λ (y : V). e.plus y (four x l t s)) (worth_plain Short p r f)
            ∙ into c x (e.plus l (e.plus t s)) (omega arith)
            ∙ ap (e.plus x) (into c l (e.plus t s) (omega arith) ∙ ap (e.plus l) (sym (laws.plus_assoc c t s (omega arith))))
            ∙ ap₂ (λ (y z : V). e.plus y z) (sym nx) (ap₂ (λ (y z : V). e.plus y (e.plus (e.plus c t) z)) (sym nl) (sym ns))
        go Special f red h =
            let c : V = worth e (item_of e full r) (lone p) in
            let nx : e.plus e.nil x ≡ x = nil_plus laws x (omega arith) in
            let nl : e.plus e.nil l ≡ l = nil_plus laws l (omega arith) in
            let nt : e.plus e.nil t ≡ t = nil_plus laws t (omega arith) in
            let b : e.reach (e.plus l (e.plus t s)) ≤ e.reach l + e.reach t + e.reach s = lts (omega arith) in
            let d : e.reach (e.plus t s) ≤ e.reach t + e.reach s = ts (omega arith) in
            ap (λ (y : V). e.plus y (four x l t s)) (worth_lone p r red)
            ∙ into c x (e.plus l (e.plus t s)) (omega arith)
            ∙ ap (e.plus x) (into c l (e.plus t s) (omega arith) ∙ ap (e.plus l) (into c t s (omega arith)))
            ∙ ap₂ (λ (y z : V). e.plus y z) (sym nx) (ap₂ (λ (y z : V). e.plus y (e.plus z (e.plus c s))) (sym nl) (sym nt))

    pub whole_granted : (t : Term) → Whole (granted norm t nl nt)
    whole_granted t = record { leading = part-most t 1 nl nt; second = part-most t 2 nl nt; other = part-most t 3 nl nt }

    pub whole_full : Whole full
    whole_full = record { leading = omega arith; second = omega arith; other = omega arith }

    -- what a choice comes to, by its parts
    abbrev pub by_parts : List (Record V) → List Pick → V
    by_parts rs ps = four (fixed_sum e rs ps) (comes e (items_of e (granted norm Long nl nt) rs) (part LongTerm rs ps)) (comes e (items_of e (granted norm Short nl nt) rs) (part ShortTerm rs ps)) (comes e (items_of e full rs) (part Special rs ps))

    pub split : (rs : List (Record V)) (ps : List Pick) → length ps ≡ length rs → length rs ≤ 32 → AllByRecursion (InRange e) rs → AllByRecursion Fits (lines rs ps) → total e (contributions e norm nl nt (lines rs ps)) ≡ by_parts rs ps
    split [] ps same few h f =
        let n : e.plus e.nil e.nil ≡ e.nil = nil_plus laws e.nil (omega (arith, laws.reach_nil)) in
        sym (ap (λ (y : V). e.plus e.nil (e.plus e.nil y)) n ∙ ap (e.plus e.nil) n ∙ n)
    split (r ∷ rs) [] same few h f = absurd (omega arith)
    split (r ∷ rs) (p ∷ ps) same few h f =
        let gl = granted norm Long nl nt in
        let gt = granted norm Short nl nt in
        let sum = kinds_sum (r ∷ rs) in
        let all = kinds_sum rs in
        let bx : e.reach (fixed e r.kind p r) ≤ cond (is_of_kind Permanent r.kind) most 0 = fixed_bound r.kind p r h.0 in
        let bl : e.reach (worth e (item_of e gl r) (cond (is_of_kind LongTerm r.kind) (plain p) None)) ≤ cond (is_of_kind LongTerm r.kind) most 0 = worth_bound (item_of e gl r) (is_of_kind LongTerm r.kind) (plain p) (small_item laws gl r h.0 (whole_granted Long)) in
        let bt : e.reach (worth e (item_of e gt r) (cond (is_of_kind ShortTerm r.kind) (plain p) None)) ≤ cond (is_of_kind ShortTerm r.kind) most 0 = worth_bound (item_of e gt r) (is_of_kind ShortTerm r.kind) (plain p) (small_item laws gt r h.0 (whole_granted Short)) in
        let bs : e.reach (worth e (item_of e full r) (cond (is_of_kind Special r.kind) (lone p) None)) ≤ cond (is_of_kind Special r.kind) most 0 = worth_bound (item_of e full r) (is_of_kind Special r.kind) (lone p) (small_item laws full r h.0 whole_full) in
        let rx : e.reach (fixed_sum e rs ps) ≤ kinds Permanent rs * most = reach_fixed rs ps h.1 (omega arith) in
        let rl : e.reach (comes e (items_of e gl rs) (part LongTerm rs ps)) ≤ kinds LongTerm rs * most = reach_part LongTerm gl (whole_granted Long) rs ps h.1 (omega arith) in
        let rt : e.reach (comes e (items_of e gt rs) (part ShortTerm rs ps)) ≤ kinds ShortTerm rs * most = reach_part ShortTerm gt (whole_granted Short) rs ps h.1 (omega arith) in
        let rq : e.reach (comes e (items_of e full rs) (part Special rs ps)) ≤ kinds Special rs * most = reach_part Special full whole_full rs ps h.1 (omega arith) in
        let one : cond (is_of_kind Permanent r.kind) most 0 + cond (is_of_kind LongTerm r.kind) most 0 + cond (is_of_kind ShortTerm r.kind) most 0 + cond (is_of_kind Special r.kind) most 0 ≡ most = one_most r.kind in
        ap (e.plus (contribution e norm nl nt r.kind p r)) (split rs ps (omega arith) (omega arith) h.1 f.1)
        ∙ step r.kind p r f.0 h.0.reduction (fixed_sum e rs ps) (comes e (items_of e gl rs) (part LongTerm rs ps)) (comes e (items_of e gt rs) (part ShortTerm rs ps)) (comes e (items_of e full rs) (part Special rs ps)) (omega arith)
      where
        one_most : (kd : Kind) → cond (is_of_kind Permanent kd) most 0 + cond (is_of_kind LongTerm kd) most 0 + cond (is_of_kind ShortTerm kd) most 0 + cond (is_of_kind Special kd) most 0 ≡ most
        one_most Permanent = refl
        one_most LongTerm = refl
        one_most ShortTerm = refl
        one_most Special = refl

    -- no part less: no less together
    pub parts_most : (rs : List (Record V)) (ps qs : List Pick) → length rs ≤ 32 → AllByRecursion (InRange e) rs → AtMost e (fixed_sum e rs qs) (fixed_sum e rs ps) → AtMost e (comes e (items_of e (granted norm Long nl nt) rs) (part LongTerm rs qs)) (comes e (items_of e (granted norm Long nl nt) rs) (part LongTerm rs ps)) → AtMost e (comes e (items_of e (granted norm Short nl nt) rs) (part ShortTerm rs qs)) (comes e (items_of e (granted norm Short nl nt) rs) (part ShortTerm rs ps)) → AtMost e (comes e (items_of e full rs) (part Special rs qs)) (comes e (items_of e full rs) (part Special rs ps)) → AtMost e (by_parts rs qs) (by_parts rs ps)
    parts_most rs ps qs few h ax al at aq =
        let all = kinds_sum rs in
        let gl = granted norm Long nl nt in
        let gt = granted norm Short nl nt in
        let X : List Pick → V = λ zs. fixed_sum e rs zs in
        let L : List Pick → V = λ zs. comes e (items_of e gl rs) (part LongTerm rs zs) in
        let T : List Pick → V = λ zs. comes e (items_of e gt rs) (part ShortTerm rs zs) in
        let S : List Pick → V = λ zs. comes e (items_of e full rs) (part Special rs zs) in
        let bx : (zs : List Pick) → e.reach (X zs) ≤ kinds Permanent rs * most = λ zs. reach_fixed rs zs h (omega arith) in
        let bl : (zs : List Pick) → e.reach (L zs) ≤ kinds LongTerm rs * most = λ zs. reach_part LongTerm gl (whole_granted Long) rs zs h (omega arith) in
        let bt : (zs : List Pick) → e.reach (T zs) ≤ kinds ShortTerm rs * most = λ zs. reach_part ShortTerm gt (whole_granted Short) rs zs h (omega arith) in
        let bs : (zs : List Pick) → e.reach (S zs) ≤ kinds Special rs * most = λ zs. reach_part Special full whole_full rs zs h (omega arith) in
        let btq = bt qs in let btp = bt ps in let bsq = bs qs in let bsp = bs ps in
        let blq = bl qs in let blp = bl ps in let bxq = bx qs in let bxp = bx ps in
        let cq : e.reach (e.plus (T qs) (S qs)) ≤ e.reach (T qs) + e.reach (S qs) = laws.reach_plus (T qs) (S qs) (omega arith) in
        let cp : e.reach (e.plus (T ps) (S ps)) ≤ e.reach (T ps) + e.reach (S ps) = laws.reach_plus (T ps) (S ps) (omega arith) in
        let dq : e.reach (e.plus (L qs) (e.plus (T qs) (S qs))) ≤ e.reach (L qs) + e.reach (e.plus (T qs) (S qs)) = laws.reach_plus (L qs) (e.plus (T qs) (S qs)) (omega arith) in
        let dp : e.reach (e.plus (L ps) (e.plus (T ps) (S ps))) ≤ e.reach (L ps) + e.reach (e.plus (T ps) (S ps)) = laws.reach_plus (L ps) (e.plus (T ps) (S ps)) (omega arith) in
        plus_at_most laws (X qs) (X ps) (e.plus (L qs) (e.plus (T qs) (S qs))) (e.plus (L ps) (e.plus (T ps) (S ps))) (omega arith) (omega arith) ax
        (plus_at_most laws (L qs) (L ps) (e.plus (T qs) (S qs)) (e.plus (T ps) (S ps)) (omega arith) (omega arith) al
        (plus_at_most laws (T qs) (T ps) (S qs) (S ps) (omega arith) (omega arith) at aq))

  -- the chosen best-factor comes to no less than the other
  factor_most : (kd : Kind) (q : Pick) (r : Record V) → AtMost e (fixed e kd q r) (fixed e kd (best_factor e r) r)
  factor_most Permanent q r = side (is_lower q)
    where
      go : (o : Ordering) → e.order (permanent e pick.Lower r) (permanent e pick.Upper r) ≡ o → AtMost e (permanent e pick.Lower r) (permanent e (by_order e o) r) × AtMost e (permanent e pick.Upper r) (permanent e (by_order e o) r)
      go Less h = (at_most_under laws (permanent e pick.Lower r) (permanent e pick.Upper r) h, at_most_same laws (permanent e pick.Upper r) (permanent e pick.Upper r) refl)
      go Equal h = (at_most_same laws (permanent e pick.Lower r) (permanent e pick.Upper r) (laws.order_equal (permanent e pick.Lower r) (permanent e pick.Upper r) h), at_most_same laws (permanent e pick.Upper r) (permanent e pick.Upper r) refl)
      go Greater h = (at_most_same laws (permanent e pick.Lower r) (permanent e pick.Lower r) refl, at_most_under laws (permanent e pick.Upper r) (permanent e pick.Lower r) (turn laws (permanent e pick.Lower r) (permanent e pick.Upper r) h))

      side : (b : Bool) → AtMost e (e.times (cond b r.load.lower r.load.upper * 1000000) r.load.effect) (permanent e (best_factor e r) r)
      side true = (go (e.order (permanent e pick.Lower r) (permanent e pick.Upper r)) refl).0
      side false = (go (e.order (permanent e pick.Lower r) (permanent e pick.Upper r)) refl).1
  factor_most LongTerm q r = at_most_same laws e.nil e.nil refl
  factor_most ShortTerm q r = at_most_same laws e.nil e.nil refl
  factor_most Special q r = at_most_same laws e.nil e.nil refl

  pub fixed_most : (rs : List (Record V)) (ps qs : List Pick) → length ps ≡ length rs → length qs ≡ length rs → length rs ≤ 32 → AllByRecursion (InRange e) rs → AllByRecursion (λ l. fixed e l.0.kind l.1 l.0 ≡ fixed e l.0.kind (best_factor e l.0) l.0) (lines rs ps) → AtMost e (fixed_sum e rs qs) (fixed_sum e rs ps)
  fixed_most [] ps qs lp lq few h f = at_most_same laws e.nil e.nil refl
  fixed_most (r ∷ rs) [] qs lp lq few h f = absurd (omega arith)
  fixed_most (r ∷ rs) (p ∷ ps) [] lp lq few h f = absurd (omega arith)
  fixed_most (r ∷ rs) (p ∷ ps) (q ∷ qs) lp lq few h f =
      let all = kinds_sum rs in
      let bq : e.reach (fixed e r.kind q r) ≤ cond (is_of_kind Permanent r.kind) most 0 = fixed_bound r.kind q r h.0 in
      let bp : e.reach (fixed e r.kind p r) ≤ cond (is_of_kind Permanent r.kind) most 0 = fixed_bound r.kind p r h.0 in
      let one : cond (is_of_kind Permanent r.kind) most 0 ≤ most = upto (is_of_kind Permanent r.kind) in
      let rq : e.reach (fixed_sum e rs qs) ≤ kinds Permanent rs * most = reach_fixed rs qs h.1 (omega arith) in
      let rp : e.reach (fixed_sum e rs ps) ≤ kinds Permanent rs * most = reach_fixed rs ps h.1 (omega arith) in
      plus_at_most laws (fixed e r.kind q r) (fixed e r.kind p r) (fixed_sum e rs qs) (fixed_sum e rs ps) (omega arith) (omega arith)
      (subst (AtMost e (fixed e r.kind q r)) (sym f.0) (factor_most r.kind q r))
      (fixed_most rs ps qs (omega arith) (omega arith) (omega arith) h.1 f.1)
    where
      upto : (b : Bool) → cond b most 0 ≤ most
      upto true = omega arith
      upto false = omega arith
