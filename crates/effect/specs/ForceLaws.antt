-- N keeps the laws, and those of its notation.
use Rattle.std.specs.Prelude.{◌≡◌, List, [], ◌∷◌, length, ℤ, refl}
use Rattle.std.proofs.Common.{ap, arith}
use Rattle.std.proofs.Math.IntN.{+ℤ_comm, +ℤ_assoc, +ℤ_idr}
use Rattle.effect.specs.Laws.{Laws}
use Rattle.effect.specs.Models.{forces, of_force, one_number}
use Rattle.effect.specs.Notations.{NotationLaws}
use Rattle.effect.specs.Arithmetic.{order_z_same, order_z_equal, order_z_turned, order_z_trans, order_z_plus, times_plus_z, plus_times_z, times_times_z, times_once_z, abs_plus, abs_times}

pub force_laws : Laws forces
force_laws = record {
  order_same = λ a. order_z_same a.force;
  order_equal = λ a b h. ap of_force (order_z_equal a.force b.force h);
  order_turned = λ a b. order_z_turned a.force b.force;
  order_trans = λ a b c h k. order_z_trans a.force b.force c.force h k;
  plus_comm = λ a b h. ap of_force (+ℤ_comm a.force b.force);
  plus_assoc = λ a b c h. ap of_force (+ℤ_assoc a.force b.force c.force);
  plus_nil = λ a h. ap of_force (+ℤ_idr a.force);
  plus_under = λ a b c h k l. rw (order_z_plus a.force b.force c.force) l;
  times_plus = λ p a b h k. ap of_force (times_plus_z p a.force b.force);
  plus_times = λ p q a h. ap of_force (plus_times_z p q a.force);
  times_times = λ p q a h k. ap of_force (times_times_z p q a.force);
  times_once = λ a h. ap of_force (times_once_z a.force);
  reach_nil = refl;
  reach_plus = λ a b h. abs_plus a.force b.force;
  reach_times = λ p a h. abs_times p a.force;
}

given_back : (zs : List ℤ) → length zs ≡ 1 → one_number.numbers (one_number.value zs) ≡ zs
given_back [] h = absurd (omega arith)
given_back (z ∷ []) h = refl
given_back (z ∷ (y ∷ zs)) h = absurd (omega arith)

pub force_notation : NotationLaws one_number
force_notation = record {
  numbers_count = λ a. refl;
  value_numbers = λ a. refl;
  numbers_value = given_back;
}
