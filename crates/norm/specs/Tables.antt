-- The tables of SP20 and SNIP85: what they say inside the ranges, and 0 outside them.
use Rattle.std.specs.Prelude.{ℕ, ◌+◌, cond, ◌==◌}
use Rattle.norm.specs.Percentages.{Percentages, inside}
use Rattle.norm.specs.declared.terms.Term.TheVariants.{Long, Short}

-- the percentages of the roles 1, 2 and 3
abbrev pub by_role : (first second third : ℕ) → ℕ → ℕ
by_role first second third role = cond (role == 1) first (cond (role == 2) second third)

-- a load that is taken alone has the first percentage, and one of several the second
abbrev pub by_count : (alone several : ℕ) → (long short : ℕ) → ℕ
by_count alone several long short = cond (long + short == 1) alone several

abbrev pub inside_only : Percentages → Percentages
inside_only p term role long short = cond (inside term role long short) (p term role long short) 0

-- SP20 goes by role
abbrev sp20_row : Percentages
sp20_row Long role long short = by_role 100 95 95 role
sp20_row Short role long short = by_role 100 90 70 role

abbrev sp20_special_row : Percentages
sp20_special_row Long role long short = by_role 100 95 95 role
sp20_special_row Short role long short = 80

-- SNIP85 goes by whether the load is taken alone
abbrev snip85_row : Percentages
snip85_row Long role long short = by_count 100 95 long short
snip85_row Short role long short = by_count 100 90 long short

abbrev snip85_special_row : Percentages
snip85_special_row Long role long short = 95
snip85_special_row Short role long short = 80

abbrev pub sp20 : Percentages
sp20 = inside_only sp20_row

abbrev pub sp20_special : Percentages
sp20_special = inside_only sp20_special_row

abbrev pub snip85 : Percentages
snip85 = inside_only snip85_row

abbrev pub snip85_special : Percentages
snip85_special = inside_only snip85_special_row
