-- The percentages of a norm, by term, role, number of long-term and number of short-term loads taken.
use Rattle.std.specs.Prelude.{◌≡◌, ℕ, ◌≤◌, Bool, true, false, ◌&&◌, Some, None, Option, nat_le}
use Rattle.norm.specs.Roles.{role_number}
use Rattle.norm.specs.declared.roles.Role.{Role}
use Rattle.norm.specs.declared.terms.Term.{Term}
use Rattle.norm.specs.declared.terms.Term.TheVariants.{Long, Short}

abbrev pub Percentages : Type 0
Percentages = (term : Term) (role long short : ℕ) → ℕ

-- how many loads of a term are taken
abbrev pub taken : Term → (long short : ℕ) → ℕ
taken Long long short = long
taken Short long short = short

-- what may be asked: a role is 1, 2 or 3 and at most the number taken of its term, and at most 32 loads of each term are taken
abbrev pub inside : (term : Term) (role long short : ℕ) → Bool
inside term role long short = nat_le 1 role && (nat_le role 3 && (nat_le role (taken term long short) && (nat_le long 32 && nat_le short 32)))

-- the role of a number that may be asked for
abbrev pub AskedRole : (term : Term) (role long short : ℕ) → Option Role → Type 0
AskedRole term role long short (Some r) = (inside term role long short ≡ true) × (role_number r ≡ role)
AskedRole term role long short None = inside term role long short ≡ false

-- inside the ranges a percentage is from 0 to 100, and outside them it is 0
abbrev pub Ranged : Percentages → Type 0
Ranged p =
    (term : Term) (role long short : ℕ) →
    (inside term role long short ≡ true → p term role long short ≤ 100) × (inside term role long short ≡ false → p term role long short ≡ 0)
