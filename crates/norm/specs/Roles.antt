-- The number of each role.
use Rattle.std.specs.Prelude.{◌≡◌, ℕ, Ok, Err, Result, ◌≢◌}
use Rattle.norm.specs.declared.roles.Role.{Role}
use Rattle.norm.specs.declared.roles.Role.TheVariants.{Leading, Second, Other}

abbrev pub role_number : Role → ℕ
role_number Leading = 1
role_number Second = 2
role_number Other = 3

-- the role that has a number, or none has it
abbrev pub RoleOf : {X : Type 0} → ℕ → Result Role X → Type 0
RoleOf n (Ok r) = role_number r ≡ n
RoleOf n (Err x) = (r : Role) → role_number r ≢ n
