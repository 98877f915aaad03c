-- Assignments, and the roles that they give.
use Rattle.std.proofs.Common.{◌≡◌, ℕ, get_or, set, map, Some, None, sym, refl, ap, ◌∙◌}
use lib.ListN.{get_or-map}
use Rattle.std.proofs.lemmas.List.{map-set}
use Rattle.norm.specs.declared.roles.Role.{Role}
use Rattle.norm.specs.declared.roles.Role.TheVariants.{Leading, Second, Other}
use Rattle.questions.specs.PartChoices.{assigned, role_of, roles_of}
use Rattle.questions.specs.declared.choice.Assignment.TheVariants.{Out}
use Rattle.questions.specs.declared.choice.PartChoice.{PartChoice}

-- what is assigned a role has it
role_assigned : (r : Role) → role_of (assigned r) ≡ Some r
role_assigned Leading = refl
role_assigned Second = refl
role_assigned Other = refl

-- the roles after one assignment
pub roles_set : (p : PartChoice) (j : ℕ) (r : Role) → map role_of (set p.assignments j (assigned r)) ≡ set (roles_of p) j (Some r)
roles_set p j r = map-set role_of p.assignments j (assigned r) ∙ ap (set (roles_of p) j) (role_assigned r)

-- the role at a place
pub role_read : (p : PartChoice) (k : ℕ) → role_of (get_or p.assignments k Out) ≡ get_or (roles_of p) k None
role_read p k = sym (get_or-map role_of p.assignments k Out)
