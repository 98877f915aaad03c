-- What a norm is not asked.
-- Assumes nothing.
use Rattle.std.proofs.Common.{◌≡◌, ◌≢◌, ℕ, false, arith}
use Rattle.norm.specs.Percentages.{inside}
use Rattle.norm.specs.Roles.{role_number}
use Rattle.norm.specs.declared.roles.Role.{Role}
use Rattle.norm.specs.declared.roles.Role.TheVariants.{Leading, Second, Other}
use Rattle.norm.specs.declared.terms.Term.{Term}

pub no_role_inside : (term : Term) (role long short : ℕ) → ((r : Role) → role_number r ≢ role) → inside term role long short ≡ false
no_role_inside term role long short h =
    let one = h Leading in
    let two = h Second in
    let three = h Other in
    grind (arith, one, two, three)
