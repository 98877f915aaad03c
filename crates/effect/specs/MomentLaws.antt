-- NM keeps the laws, and those of its notation.
use Rattle.std.specs.Prelude.{◌≡◌, ℕ, ◌*◌, ◌≤◌, max, List, [], ◌∷◌, length, ℤ, refl}
use Rattle.std.specs.declared.cmp.Ordering.TheVariants.{Less, Equal, Greater}
use Rattle.std.specs.declared.cmp.Ordering.{Ordering}
use Rattle.std.proofs.Common.{ap, sym, ◌∙◌, ⊎_elim, arith, mul-le-mul_left}
use Rattle.std.proofs.Math.Nat.{max-eq_left, max-eq_right}
use Rattle.std.proofs.Math.IntN.{+ℤ_comm, +ℤ_assoc, +ℤ_idr}
use Rattle.std.proofs.lemmas.Int.{ints}
use Rattle.std.proofs.lemmas.Bool.{cases_lt}
use Rattle.std.specs.Ordering.{ordering_reverse, ordering_then}
use Rattle.effect.specs.declared.moments.NM.{NM}
use Rattle.effect.specs.Laws.{Laws}
use Rattle.effect.specs.Models.{moments, order_z, two_numbers}
use Rattle.effect.specs.Notations.{NotationLaws}
use Rattle.effect.specs.Arithmetic.{order_z_same, order_z_turned, order_z_plus, times_plus_z, plus_times_z, times_times_z, times_once_z, abs_plus, abs_times}

max_times : (p a b : ℕ) → max (p * a) (p * b) ≡ p * max a b
max_times p a b =
    ⊎_elim
    (λ h. let le : a ≤ b = omega arith in max-eq_right (mul-le-mul_left p le) ∙ ap (λ (n : ℕ). p * n) (sym (max-eq_right le)))
    (λ le. max-eq_left (mul-le-mul_left p le) ∙ ap (λ (n : ℕ). p * n) (sym (max-eq_left le)))
    (cases_lt a b)

reversed_then : (o p : Ordering) → ordering_reverse (ordering_then o p) ≡ ordering_then (ordering_reverse o) (ordering_reverse p)
reversed_then Less p = refl
reversed_then Equal p = refl
reversed_then Greater p = refl

pair_equal : (a b : NM) → moments.order a b ≡ Equal → a ≡ b
pair_equal a b h = grind (arith, ints)

pair_trans : (a b c : NM) → moments.order a b ≡ Less → moments.order b c ≡ Less → moments.order a c ≡ Less
pair_trans a b c h k = grind (arith, ints)

pub moment_laws : Laws moments
moment_laws = record {
  order_same = λ a. simp order_z_same;
  order_equal = pair_equal;
  order_turned = λ a b. rw (order_z_turned a.force b.force, order_z_turned a.moment b.moment) (sym (reversed_then (order_z a.force b.force) (order_z a.moment b.moment)));
  order_trans = pair_trans;
  plus_comm = λ a b h. rw (+ℤ_comm a.force b.force, +ℤ_comm a.moment b.moment);
  plus_assoc = λ a b c h. simp +ℤ_assoc;
  plus_nil = λ a h. simp +ℤ_idr;
  plus_under = λ a b c h k l. rw (order_z_plus a.force b.force c.force, order_z_plus a.moment b.moment c.moment) l;
  times_plus = λ p a b h k. simp times_plus_z;
  plus_times = λ p q a h. simp plus_times_z;
  times_times = λ p q a h k. simp times_times_z;
  times_once = λ a h. simp times_once_z;
  reach_nil = refl;
  reach_plus = λ a b h. omega (arith, abs_plus a.force b.force, abs_plus a.moment b.moment);
  reach_times = λ p a h. simp abs_times (max_times p _ _);
}

given_back : (zs : List ℤ) → length zs ≡ 2 → two_numbers.numbers (two_numbers.value zs) ≡ zs
given_back [] h = absurd (omega arith)
given_back (z ∷ []) h = absurd (omega arith)
given_back (z ∷ (y ∷ [])) h = refl
given_back (z ∷ (y ∷ (x ∷ zs))) h = absurd (omega arith)

pub moment_notation : NotationLaws two_numbers
moment_notation = record {
  numbers_count = λ a. refl;
  value_numbers = λ a. refl;
  numbers_value = given_back;
}
