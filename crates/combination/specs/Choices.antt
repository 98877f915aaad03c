-- Choices, and which of them are admissible.
use Rattle.std.specs.Prelude.{◌≡◌, ℕ, ◌<◌, ◌≤◌, Bool, true, false, ◌&&◌, T, List, [], ◌∷◌, length, Some, None, Option, ◌==◌}
use Rattle.std.specs.List.{AllByRecursion, zip}
use Rattle.loads.specs.declared.kinds.Kind.{Kind}
use Rattle.loads.specs.declared.kinds.Kind.TheVariants.{Permanent, LongTerm, ShortTerm, Special}
use Rattle.loads.specs.declared.records.Record.{Record}
use Rattle.norm.specs.Roles.{role_number}
use Rattle.norm.specs.declared.roles.Role.{Role}
use Rattle.norm.specs.declared.roles.Role.TheVariants.{Leading, Second, Other}
use Rattle.combination.specs.Lists.{Among, EachTwo, count}
use Rattle.combination.specs.declared.choice.Choice.{Choice}
use Rattle.combination.specs.declared.choice.Picked.{Picked}
use Rattle.combination.specs.declared.picks.Pick.{Pick}
use Rattle.combination.specs.declared.picks.Pick.TheVariants.{Upper, Lower, Out, As, Taken}
use Rattle.combination.specs.declared.questions.Question.{Question}
use Rattle.combination.specs.declared.questions.Question.TheVariants.{Basic, WithSpecial}

-- what may be done with a record of a kind
abbrev pub picks_for : Kind → List Pick
picks_for Permanent = Upper ∷ Lower ∷ []
picks_for LongTerm = Out ∷ As Leading ∷ As Second ∷ As Other ∷ []
picks_for ShortTerm = Out ∷ As Leading ∷ As Second ∷ As Other ∷ []
picks_for Special = Out ∷ Taken ∷ []

-- the role that a pick gives
abbrev pub role_of : Pick → Option Role
role_of Upper = None
role_of Lower = None
role_of Out = None
role_of (As r) = Some r
role_of Taken = None

abbrev pub number_or_0 : Option Role → ℕ
number_or_0 None = 0
number_or_0 (Some r) = role_number r

-- its number, 0 for none
abbrev pub role : Pick → ℕ
role p = number_or_0 (role_of p)

abbrev pub is_taken : Pick → Bool
is_taken Upper = false
is_taken Lower = false
is_taken Out = false
is_taken (As r) = true
is_taken Taken = true

abbrev pub is_lower : Pick → Bool
is_lower Upper = false
is_lower Lower = true
is_lower Out = false
is_lower (As r) = false
is_lower Taken = false

abbrev pub is_of_kind : Kind → Kind → Bool
is_of_kind Permanent k = elim k [ Permanent ↦ true | LongTerm ↦ false | ShortTerm ↦ false | Special ↦ false ]
is_of_kind LongTerm k = elim k [ Permanent ↦ false | LongTerm ↦ true | ShortTerm ↦ false | Special ↦ false ]
is_of_kind ShortTerm k = elim k [ Permanent ↦ false | LongTerm ↦ false | ShortTerm ↦ true | Special ↦ false ]
is_of_kind Special k = elim k [ Permanent ↦ false | LongTerm ↦ false | ShortTerm ↦ false | Special ↦ true ]

-- how many special loads a question takes
abbrev pub specials : Question → ℕ
specials Basic = 0
specials WithSpecial = 1

-- a record with what a choice does with it
abbrev pub Line : Type 0 → Type 0
Line E = Record E × Pick

module _ {E : Type 0} where
  -- the records with their picks, place by place
  abbrev pub lines : List (Record E) → List Pick → List (Line E)
  lines rs ps = zip rs ps

  abbrev pub line_of : Picked E → Line E
  line_of x = (x.of.now, x.pick)

  abbrev pub lines_of : Choice E → List (Line E)
  lines_of c = lines c.records.now c.picks.now

  -- how many records of a kind are taken
  abbrev pub taken : Kind → List (Line E) → ℕ
  taken k ls = count (λ l. is_of_kind k l.0.kind && is_taken l.1) ls

  -- how many records of a kind have a role
  abbrev pub in_role : Kind → ℕ → List (Line E) → ℕ
  in_role k n ls = count (λ l. is_of_kind k l.0.kind && role l.1 == n) ls

  -- they share a group other than 0
  abbrev pub SharesGroup : Record E → Record E → Type 0
  SharesGroup a b = (0 < a.load.group) × (a.load.group ≡ b.load.group)

  -- the pick is one for the record's kind
  abbrev pub Fits : Line E → Type 0
  Fits l = Among (picks_for l.0.kind) l.1

  -- not both taken, where they share a group
  abbrev pub Apart : Line E → Line E → Type 0
  Apart l m = T (is_taken l.1) → T (is_taken m.1) → SharesGroup l.0 m.0 → ⊥

-- of one kind: one record has role 1 where any is taken, one has role 2 where two or more are and none otherwise;
-- a taken record has one of the three roles, so all others have role 3
pub record Roles {E : Type 0} (k : Kind) (ls : List (Line E)) : Type 0 where
  pub leading : 0 < taken k ls → in_role k 1 ls ≡ 1
  pub second : 1 < taken k ls → in_role k 2 ls ≡ 1
  pub no_second : taken k ls ≤ 1 → in_role k 2 ls ≡ 0

-- each record has a pick for its kind, as many special loads are taken as the question says, the roles are given, and no two taken records share a group other than 0
pub record Admissible {E : Type 0} (q : Question) (records : List (Record E)) (picks : List Pick) : Type 0 where
  pub parallel : length picks ≡ length records
  pub fitting : AllByRecursion Fits (lines records picks)
  pub special : taken Special (lines records picks) ≡ specials q
  pub long_roles : Roles LongTerm (lines records picks)
  pub short_roles : Roles ShortTerm (lines records picks)
  pub groups : EachTwo Apart (lines records picks)
