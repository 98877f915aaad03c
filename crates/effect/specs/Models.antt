-- The effect types N, a force, and NM, a force with its moment.
use Rattle.std.specs.Prelude.{max, cond, [], ◌∷◌, ℤ, pos, ◌+ℤ◌, ◌*ℤ◌, int_lt, slice_index_or, unsigned_abs}
use Rattle.std.specs.declared.cmp.Ordering.TheVariants.{Less, Equal, Greater}
use Rattle.std.specs.declared.cmp.Ordering.{Ordering}
use Rattle.std.specs.Ordering.{ordering_then}
use Rattle.effect.specs.Laws.{Operations}
use Rattle.effect.specs.Notations.{Notation}
use Rattle.effect.specs.declared.moments.NM.{NM}
use Rattle.effect.specs.declared.newtons.N.{N}

-- two integers compared as numbers
abbrev pub order_z : ℤ → ℤ → Ordering
order_z a b = cond (int_lt a b) Less (cond (int_lt b a) Greater Equal)

abbrev pub of_force : ℤ → N
of_force z = record { force = z }

-- N: one number, compared as numbers; its reach is its absolute value
abbrev pub forces : Operations N
forces = record {
  nil = of_force (pos 0);
  plus = λ a b. of_force (a.force +ℤ b.force);
  times = λ p a. of_force (pos p *ℤ a.force);
  order = λ a b. order_z a.force b.force;
  reach = λ a. unsigned_abs a.force;
}

-- written as the force
abbrev pub one_number : Notation N
one_number = record {
  count = 1;
  value = λ zs. of_force (slice_index_or zs 0 (pos 0));
  numbers = λ a. a.force ∷ [];
}

abbrev pub of_pair : ℤ → ℤ → NM
of_pair f m = record { force = f; moment = m }

-- NM: compared by force and, where the forces are equal, by moment; its reach is the larger absolute value
abbrev pub moments : Operations NM
moments = record {
  nil = of_pair (pos 0) (pos 0);
  plus = λ a b. of_pair (a.force +ℤ b.force) (a.moment +ℤ b.moment);
  times = λ p a. of_pair (pos p *ℤ a.force) (pos p *ℤ a.moment);
  order = λ a b. ordering_then (order_z a.force b.force) (order_z a.moment b.moment);
  reach = λ a. max (unsigned_abs a.force) (unsigned_abs a.moment);
}

-- written as the force, then the moment
abbrev pub two_numbers : Notation NM
two_numbers = record {
  count = 2;
  value = λ zs. of_pair (slice_index_or zs 0 (pos 0)) (slice_index_or zs 1 (pos 0));
  numbers = λ a. a.force ∷ (a.moment ∷ []);
}
