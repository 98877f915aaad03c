-- A choice by its parts: the factors of the permanent loads, and the roles of each other kind.
use Rattle.std.specs.Prelude.{◌≡◌, ℕ, suc, ◌≤◌, Bool, cond, List, [], ◌∷◌, map, Some, None, Option}
use Rattle.std.specs.declared.cmp.Ordering.TheVariants.{Less, Equal, Greater}
use Rattle.std.specs.declared.cmp.Ordering.{Ordering}
use Rattle.effect.specs.Laws.{Operations}
use Rattle.norm.specs.Percentages.{Percentages}
use Rattle.norm.specs.declared.terms.Term.{Term}
use Rattle.combination.specs.declared.percents.Percents.{Percents}
use Rattle.norm.specs.declared.roles.Role.{Role}
use Rattle.norm.specs.declared.roles.Role.TheVariants.{Leading, Other}
use Rattle.loads.specs.declared.kinds.Kind.{Kind}
use Rattle.loads.specs.declared.kinds.Kind.TheVariants.{Permanent, LongTerm, ShortTerm, Special}
use Rattle.loads.specs.declared.records.Record.{Record}
use Rattle.combination.specs.Choices.{is_of_kind}
use Rattle.combination.specs.Worst.{permanent}
use Rattle.combination.specs.declared.picks.Pick.{Pick}
use Rattle.combination.specs.declared.picks.Pick.TheVariants as pick

-- the role that a long-term or short-term load has
abbrev pub plain : Pick → Option Role
plain pick.Upper = None
plain pick.Lower = None
plain pick.Out = None
plain (pick.As r) = Some r
plain pick.Taken = Some Other

-- a special load that is taken leads
abbrev pub lone : Pick → Option Role
lone pick.Upper = None
lone pick.Lower = None
lone pick.Out = None
lone (pick.As r) = Some Leading
lone pick.Taken = Some Leading

abbrev pub role_at : Kind → Pick → Option Role
role_at Permanent p = None
role_at LongTerm p = plain p
role_at ShortTerm p = plain p
role_at Special p = lone p

-- the pick that gives a role
abbrev pub given : Option Role → Pick
given None = pick.Out
given (Some r) = pick.As r

abbrev pub taken_as : Option Role → Pick
taken_as None = pick.Out
taken_as (Some r) = pick.Taken

-- which records are of a kind
abbrev pub mask : {V : Type 0} → Kind → List (Record V) → List Bool
mask k rs = map (λ r. is_of_kind k r.kind) rs

-- what a choice does with the records of a kind; the others are out
abbrev pub part : {V : Type 0} → Kind → List (Record V) → List Pick → List (Option Role)
part k [] ps = []
part k (r ∷ rs) [] = []
part k (r ∷ rs) (p ∷ ps) = cond (is_of_kind k r.kind) (role_at k p) None ∷ part k rs ps

-- the percentages that a norm grants
abbrev pub granted : Percentages → Term → ℕ → ℕ → Percents
granted norm t nl nt = record { leading = norm t 1 nl nt; second = norm t 2 nl nt; other = norm t 3 nl nt }

-- the percentages agree in the roles that n records have
pub record Agrees (n : ℕ) (s g : Percents) : Type 0 where
  pub leading : 1 ≤ n → s.leading ≡ g.leading
  pub second : 2 ≤ n → s.second ≡ g.second
  pub other : 3 ≤ n → s.other ≡ g.other

module _ {V : Type 0} (e : Operations V) where
  -- what a record adds if it is permanent
  abbrev pub fixed : Kind → Pick → Record V → V
  fixed Permanent p r = permanent e p r
  fixed LongTerm p r = e.nil
  fixed ShortTerm p r = e.nil
  fixed Special p r = e.nil

  abbrev pub fixed_sum : List (Record V) → List Pick → V
  fixed_sum [] ps = e.nil
  fixed_sum (r ∷ rs) [] = e.nil
  fixed_sum (r ∷ rs) (p ∷ ps) = e.plus (fixed r.kind p r) (fixed_sum rs ps)

  abbrev pub by_order : Ordering → Pick
  by_order Less = pick.Upper
  by_order Equal = pick.Upper
  by_order Greater = pick.Lower

  -- the factor by which a permanent load comes to the most
  abbrev pub best_factor : Record V → Pick
  best_factor r = by_order (e.order (permanent e pick.Lower r) (permanent e pick.Upper r))

  -- the pick of a record, by its kind
  abbrev pub placed : Kind → Record V → Option Role → Option Role → Option Role → Pick
  placed Permanent r l t s = best_factor r
  placed LongTerm r l t s = given l
  placed ShortTerm r l t s = given t
  placed Special r l t s = taken_as s

  -- the choice that gives each record its factor, or the role that its kind's choice has for it
  abbrev pub merged : List (Record V) → (ℕ → Option Role) → (ℕ → Option Role) → (ℕ → Option Role) → List Pick
  merged [] l t s = []
  merged (r ∷ rs) l t s = placed r.kind r (l 0) (t 0) (s 0) ∷ merged rs (λ k. l (suc k)) (λ k. t (suc k)) (λ k. s (suc k))
