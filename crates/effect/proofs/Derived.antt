-- What the laws of an effect type give of sums and multiples of single values.
use Rattle.std.proofs.Common.{◌≡◌, ℕ, zero, suc, ◌+◌, ◌*◌, ◌≤◌, sym, ap, ◌∙◌, ⊎_elim, suc-mul, zero-mul, add-one, arith}
use Rattle.std.proofs.lemmas.Bool.{cases_lt}
use Rattle.effect.specs.Laws.{Operations, Laws, AtMost, limit}
use Rattle.effect.proofs.AtMost.{under_irrefl, cases, at_most_same, at_most_under, at_most_cases, at_most_trans, at_most_or_under}

module _ {V : Type 0} {e : Operations V} (laws : Laws e) where
  pub nil_plus : (a : V) → e.reach a ≤ limit → e.plus e.nil a ≡ a
  nil_plus a h = laws.plus_comm e.nil a (omega (arith, laws.reach_nil)) ∙ laws.plus_nil a h

  pub plus_cancel : (a b c : V) → e.reach a + e.reach c ≤ limit → e.reach b + e.reach c ≤ limit → e.plus a c ≡ e.plus b c → a ≡ b
  plus_cancel a b c h k s =
      cases laws a b
      (λ l. absurd (under_irrefl laws (e.plus a c) (ap (e.order (e.plus a c)) s ∙ laws.plus_under a b c h k l)))
      (λ q. q)
      (λ l. absurd (under_irrefl laws (e.plus b c) (ap (e.order (e.plus b c)) (sym s) ∙ laws.plus_under b a c k h l)))

  pub plus_at_most_left : (a b c : V) → e.reach a + e.reach c ≤ limit → e.reach b + e.reach c ≤ limit → AtMost e a b → AtMost e (e.plus a c) (e.plus b c)
  plus_at_most_left a b c h k m =
      ⊎_elim
      (λ l. at_most_under laws _ _ (laws.plus_under a b c h k l))
      (λ s. at_most_same laws _ _ (ap (λ (v : V). e.plus v c) s))
      (at_most_cases laws a b m)

  pub plus_at_most_right : (a c d : V) → e.reach a + e.reach c ≤ limit → e.reach a + e.reach d ≤ limit → AtMost e c d → AtMost e (e.plus a c) (e.plus a d)
  plus_at_most_right a c d h k m =
      rw (laws.plus_comm a c h, laws.plus_comm a d k) (plus_at_most_left c d a (omega arith) (omega arith) m)

  -- by way of b + c or of a + d, one of which is within the limit
  pub plus_at_most : (a b c d : V) → e.reach a + e.reach c ≤ limit → e.reach b + e.reach d ≤ limit → AtMost e a b → AtMost e c d → AtMost e (e.plus a c) (e.plus b d)
  plus_at_most a b c d h k m n =
      ⊎_elim
      (λ over. at_most_trans laws _ (e.plus a d) _ (plus_at_most_right a c d h (omega arith) n) (plus_at_most_left a b d (omega arith) k m))
      (λ within. at_most_trans laws _ (e.plus b c) _ (plus_at_most_left a b c h within m) (plus_at_most_right b c d within k n))
      (cases_lt limit (e.reach b + e.reach c))

  pub times_zero : (a : V) → e.times 0 a ≡ e.nil
  times_zero a =
      let none : 0 * e.reach a ≤ limit = omega (arith, zero-mul (e.reach a)) in
      let small : e.reach (e.times 0 a) ≡ 0 = laws.reach_times 0 a none ∙ zero-mul (e.reach a) in
      let twice : e.plus (e.times 0 a) (e.times 0 a) ≡ e.times 0 a = sym (laws.plus_times 0 0 a none) in
      plus_cancel (e.times 0 a) e.nil (e.times 0 a) (omega arith) (omega (arith, laws.reach_nil)) (twice ∙ sym (nil_plus (e.times 0 a) (omega arith)))

  pub times_next : (p : ℕ) (a : V) → suc p * e.reach a ≤ limit → e.times (suc p) a ≡ e.plus (e.times p a) a
  times_next p a h =
      let next = suc-mul p (e.reach a) in
      let small : (p + 1) * e.reach a ≤ limit = rw (add-one p) h in
      ap (λ (n : ℕ). e.times n a) (sym (add-one p)) ∙ laws.plus_times p 1 a small ∙ ap (e.plus (e.times p a)) (laws.times_once a (omega arith))

  -- of two values the larger has the larger multiples
  pub times_at_most : (p : ℕ) (a b : V) → p * e.reach a ≤ limit → p * e.reach b ≤ limit → AtMost e a b → AtMost e (e.times p a) (e.times p b)
  times_at_most zero a b h k m = at_most_same laws _ _ (times_zero a ∙ sym (times_zero b))
  times_at_most (suc p) a b h k m =
      let ha = suc-mul p (e.reach a) in
      let hb = suc-mul p (e.reach b) in
      let ra = laws.reach_times p a (omega arith) in
      let rb = laws.reach_times p b (omega arith) in
      let below = times_at_most p a b (omega arith) (omega arith) m in
      rw (times_next p a h, times_next p b k)
      (plus_at_most (e.times p a) (e.times p b) a b (omega arith) (omega arith) below m)

  pub plus_at_most_cancel : (a b c : V) → e.reach a + e.reach c ≤ limit → e.reach b + e.reach c ≤ limit → AtMost e (e.plus a c) (e.plus b c) → AtMost e a b
  plus_at_most_cancel a b c h k m =
      ⊎_elim (λ s. s)
      (λ l. absurd (under_irrefl laws (e.plus b c) (⊎_elim
      (λ n. laws.order_trans (e.plus b c) (e.plus a c) (e.plus b c) (laws.plus_under b a c k h l) n)
      (λ s. ap (e.order (e.plus b c)) (sym s) ∙ laws.plus_under b a c k h l)
      (at_most_cases laws (e.plus a c) (e.plus b c) m))))
      (at_most_or_under laws a b)
