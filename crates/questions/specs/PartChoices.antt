-- Choices among the records of one kind, what they come to, and the best of them.
use Rattle.std.specs.Prelude.{◌≡◌, ℕ, ◌+◌, ◌-◌, ◌≤◌, min, Bool, true, false, ◌≢◌, List, [], ◌∷◌, map, length, take, slice_index, slice_index_or, Some, None, Option}
use Rattle.effect.specs.Laws.{Operations, AtMost, limit}
use Rattle.effect.specs.Sums.{total, reaches}
use Rattle.questions.specs.Items.{Item}
use Rattle.questions.specs.declared.choice.Assignment.{Assignment}
use Rattle.questions.specs.declared.choice.Assignment.TheVariants as assignment
use Rattle.questions.specs.declared.choice.PartChoice.{PartChoice}
use Rattle.norm.specs.declared.roles.Role.{Role}
use Rattle.norm.specs.declared.roles.Role.TheVariants.{Leading, Second, Other}

-- whether a record with this role is taken, has role 1, has role 2: 1 or 0
abbrev pub taken : Option Role → ℕ
taken None = 0
taken (Some r) = 1

abbrev pub leads : Option Role → ℕ
leads None = 0
leads (Some Leading) = 1
leads (Some Second) = 0
leads (Some Other) = 0

abbrev pub seconds : Option Role → ℕ
seconds None = 0
seconds (Some Leading) = 0
seconds (Some Second) = 1
seconds (Some Other) = 0

abbrev pub count : (Option Role → ℕ) → List (Option Role) → ℕ
count f [] = 0
count f (p ∷ ps) = f p + count f ps

abbrev pub group_of : {V : Type 0} → Item V → ℕ
group_of it = it.group

-- the group of record k
abbrev pub group_at : {V : Type 0} → List (Item V) → ℕ → ℕ
group_at items k = slice_index (map group_of items) k

-- no two taken records share a group other than 0
abbrev pub Apart : {V : Type 0} → List (Item V) → List (Option Role) → Type 0
Apart items ps = (j k : ℕ) → j ≢ k → taken (slice_index_or ps j None) ≡ 1 → taken (slice_index_or ps k None) ≡ 1 → group_at items j ≡ group_at items k → group_at items j ≡ 0

-- a choice that takes c records, l of them in role 1 and s in role 2
pub record Valid {V : Type 0} (items : List (Item V)) (c l s : ℕ) (ps : List (Option Role)) : Type 0 where
  pub parallel : length ps ≡ length items
  pub number : count taken ps ≡ c
  pub first : count leads ps ≡ l
  pub next : count seconds ps ≡ s
  pub apart : Apart items ps

-- the flag of record k is set
abbrev pub Marked : List Bool → ℕ → Type 0
Marked flags k = slice_index_or flags k false ≡ true

-- a valid choice that takes only marked records
pub record From {V : Type 0} (items : List (Item V)) (flags : List Bool) (c l s : ℕ) (ps : List (Option Role)) : Type 0 where
  pub valid : Valid items c l s ps
  pub within : (k : ℕ) → taken (slice_index_or ps k None) ≡ 1 → Marked flags k

-- the role in which a record is taken, None where it is left out
abbrev pub role_of : Assignment → Option Role
role_of assignment.Out = None
role_of assignment.Leading = Some Leading
role_of assignment.Second = Some Second
role_of assignment.Other = Some Other

-- taken in this role
abbrev pub assigned : Role → Assignment
assigned Leading = assignment.Leading
assigned Second = assignment.Second
assigned Other = assignment.Other

-- the role at each of the 32 places
abbrev pub roles_of : PartChoice → List (Option Role)
roles_of p = map role_of p.assignments

-- the roles of the records
abbrev pub chosen : {V : Type 0} → List (Item V) → PartChoice → List (Option Role)
chosen items p = take (length items) (roles_of p)

-- a choice that takes n of the wanted records: one in role 1 where any is taken, one in role 2 where two or more are
abbrev pub Admissible : {V : Type 0} → List (Item V) → List Bool → ℕ → List (Option Role) → Type 0
Admissible items wanted n ps = From items wanted n (min 1 n) (min 1 (n - 1)) ps

module _ {V : Type 0} (n : Operations V) where
  -- what a record contributes
  abbrev pub worth : Item V → Option Role → V
  worth it None = n.nil
  worth it (Some Leading) = it.leading
  worth it (Some Second) = it.second
  worth it (Some Other) = it.other

  -- what each record contributes to a choice
  abbrev pub worths : List (Item V) → List (Option Role) → List V
  worths [] ps = []
  worths (it ∷ items) [] = []
  worths (it ∷ items) (p ∷ ps) = worth it p ∷ worths items ps

  -- what a choice comes to
  abbrev pub comes : List (Item V) → List (Option Role) → V
  comes items ps = total n (worths items ps)

  -- the reaches of what it sums
  abbrev pub reach_sum : List (Item V) → List (Option Role) → ℕ
  reach_sum items ps = reaches n (worths items ps)

  -- no contribution of the record has a reach above u
  pub record Small (u : ℕ) (it : Item V) : Type 0 where
    pub leading : n.reach it.leading ≤ u
    pub second : n.reach it.second ≤ u
    pub other : n.reach it.other ≤ u

  -- no choice passes the limit
  abbrev pub Light : List (Item V) → Type 0
  Light items = (ps : List (Option Role)) → length ps ≡ length items → reach_sum items ps ≤ limit

  -- ps takes k of the wanted records, and no choice that does comes to more
  pub record Best (items : List (Item V)) (wanted : List Bool) (k : ℕ) (ps : List (Option Role)) : Type 0 where
    pub admissible : Admissible items wanted k ps
    pub most : (qs : List (Option Role)) → Admissible items wanted k qs → AtMost n (comes items qs) (comes items ps)
