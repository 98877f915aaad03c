-- What the inner functions compute.
use Rattle.std.specs.Prelude.{◌≡◌, ℕ, ◌≤◌, Bool, cond, ◌&&◌, List, Some, None, Option, ◌==◌}
use Rattle.loads.specs.declared.kinds.Kind.{Kind}
use Rattle.loads.specs.declared.kinds.Kind.TheVariants.{LongTerm, ShortTerm}
use Rattle.norm.specs.Percentages.{Percentages, Ranged}
use Rattle.norm.specs.Roles.{role_number}
use Rattle.norm.specs.declared.roles.Role.{Role}
use Rattle.norm.specs.declared.terms.Term.{Term}
use Rattle.norm.specs.declared.terms.Term.TheVariants.{Long, Short}
use Rattle.combination.specs.Choices.{Line, is_of_kind, is_taken, role, taken}
use Rattle.combination.specs.Lists.{count}
use Rattle.combination.specs.declared.picks.Pick.{Pick}
use Rattle.combination.specs.declared.percents.Percents.{Percents}
use Rattle.combination.specs.declared.percents.Table.{Table}

-- whether a pick takes its record, in a role where one is given
abbrev pub is_counted_pick : Option Role → Pick → Bool
is_counted_pick None p = is_taken p
is_counted_pick (Some r) p = role p == role_number r

-- how many records of a kind are taken, in a role where one is given
abbrev pub counted : {E : Type 0} → Kind → Option Role → List (Line E) → ℕ
counted k r ls = count (λ l. is_of_kind k l.0.kind && is_counted_pick r l.1) ls

-- the percentages of a norm for one term and these numbers taken
pub record Asked (norm : Percentages) (term : Term) (long short : ℕ) (ps : Percents) : Type 0 where
  pub leading : ps.leading ≡ norm term 1 long short
  pub second : ps.second ≡ norm term 2 long short
  pub other : ps.other ≡ norm term 3 long short

-- by the number of a role, 0 for no role
abbrev pub by_role : Percents → ℕ → ℕ
by_role ps i = cond (i == 1) ps.leading (cond (i == 2) ps.second (cond (i == 3) ps.other 0))

-- none is above 100
abbrev pub Bounded : Percents → Type 0
Bounded ps = (i : ℕ) → by_role ps i ≤ 100

abbrev pub by_table : Table → Percentages
by_table t Long i nl nt = by_role t.long i
by_table t Short i nl nt = by_role t.short i

-- the percentages of a norm for the numbers that a choice takes
pub record AskedFor {E : Type 0} (norm : Percentages) (ls : List (Line E)) (t : Table) : Type 0 where
  pub ranged : Ranged norm
  pub long : Asked norm Long (taken LongTerm ls) (taken ShortTerm ls) t.long
  pub short : Asked norm Short (taken LongTerm ls) (taken ShortTerm ls) t.short
