-- How many records of a kind a choice takes and gives a role, by its part of that kind.
use Rattle.std.proofs.Common.{◌≡◌, ℕ, zero, suc, ◌+◌, Bool, true, false, cond, ◌&&◌, eqb, List, [], ◌∷◌, length, get_or, refl, ap, ◌∙◌, ap₂, arith, None, Option}
use Rattle.questions.specs.PartChoices.{leads, seconds, Marked}
use Rattle.questions.specs.PartChoices.{taken as takes, count as tally}
use Rattle.norm.specs.declared.roles.Role.{Role}
use Rattle.loads.specs.declared.kinds.Kind.{Kind}
use Rattle.loads.specs.declared.kinds.Kind.TheVariants.{LongTerm, ShortTerm, Special}
use Rattle.loads.specs.declared.records.Record.{Record}
use Rattle.combination.specs.Choices.{is_of_kind, is_taken, role, lines, taken, in_role}
use Rattle.combination.specs.Lists.{count}
use Rattle.questions.specs.Parts.{plain, lone, role_at, part, mask}
use Rattle.combination.specs.declared.picks.Pick.{Pick}
use Rattle.combination.specs.declared.picks.Pick.TheVariants as pick
use Rattle.norm.specs.declared.roles.Role.TheVariants as norm_role

pub plain_taken : (p : Pick) → takes (plain p) ≡ cond (is_taken p) 1 0
plain_taken pick.Upper = refl
plain_taken pick.Lower = refl
plain_taken pick.Out = refl
plain_taken (pick.As r) = refl
plain_taken pick.Taken = refl

plain_leads : (p : Pick) → leads (plain p) ≡ cond (eqb (role p) 1) 1 0
plain_leads pick.Upper = refl
plain_leads pick.Lower = refl
plain_leads pick.Out = refl
plain_leads (pick.As norm_role.Leading) = refl
plain_leads (pick.As norm_role.Second) = refl
plain_leads (pick.As norm_role.Other) = refl
plain_leads pick.Taken = refl

plain_seconds : (p : Pick) → seconds (plain p) ≡ cond (eqb (role p) 2) 1 0
plain_seconds pick.Upper = refl
plain_seconds pick.Lower = refl
plain_seconds pick.Out = refl
plain_seconds (pick.As norm_role.Leading) = refl
plain_seconds (pick.As norm_role.Second) = refl
plain_seconds (pick.As norm_role.Other) = refl
plain_seconds pick.Taken = refl

pub lone_taken : (p : Pick) → takes (lone p) ≡ cond (is_taken p) 1 0
lone_taken pick.Upper = refl
lone_taken pick.Lower = refl
lone_taken pick.Out = refl
lone_taken (pick.As r) = refl
lone_taken pick.Taken = refl

lone_leads : (p : Pick) → leads (lone p) ≡ cond (is_taken p) 1 0
lone_leads pick.Upper = refl
lone_leads pick.Lower = refl
lone_leads pick.Out = refl
lone_leads (pick.As r) = refl
lone_leads pick.Taken = refl

lone_seconds : (p : Pick) → seconds (lone p) ≡ cond false 1 0
lone_seconds pick.Upper = refl
lone_seconds pick.Lower = refl
lone_seconds pick.Out = refl
lone_seconds (pick.As r) = refl
lone_seconds pick.Taken = refl

head_count : (f : Option Role → ℕ) (t : Bool) (x : Option Role) (b : Bool) → f None ≡ 0 → f x ≡ cond t 1 0 → f (cond b x None) ≡ cond (b && t) 1 0
head_count f t x true z h = h
head_count f t x false z h = z

-- a part takes only records of its kind
cond_taken : (b : Bool) (x : Option Role) → takes (cond b x None) ≡ 1 → b ≡ true
cond_taken true x h = refl
cond_taken false x h = absurd (omega arith)

module _ {V : Type 0} where
  part_count : (f : Option Role → ℕ) (t : Pick → Bool) (k : Kind) → f None ≡ 0 → ((p : Pick) → f (role_at k p) ≡ cond (t p) 1 0) → (rs : List (Record V)) (ps : List Pick) → tally f (part k rs ps) ≡ count (λ l. is_of_kind k l.0.kind && t l.1) (lines rs ps)
  part_count f t k z h [] ps = refl
  part_count f t k z h (r ∷ rs) [] = refl
  part_count f t k z h (r ∷ rs) (p ∷ ps) = ap₂ ◌+◌ (head_count f (t p) (role_at k p) (is_of_kind k r.kind) z (h p)) (part_count f t k z h rs ps)

  module _ (rs : List (Record V)) (ps : List Pick) where
    pub long_taken : tally takes (part LongTerm rs ps) ≡ taken LongTerm (lines rs ps)
    long_taken = part_count takes is_taken LongTerm refl plain_taken rs ps

    pub long_leads : tally leads (part LongTerm rs ps) ≡ in_role LongTerm 1 (lines rs ps)
    long_leads = part_count leads (λ p. eqb (role p) 1) LongTerm refl plain_leads rs ps

    pub long_seconds : tally seconds (part LongTerm rs ps) ≡ in_role LongTerm 2 (lines rs ps)
    long_seconds = part_count seconds (λ p. eqb (role p) 2) LongTerm refl plain_seconds rs ps

    pub short_taken : tally takes (part ShortTerm rs ps) ≡ taken ShortTerm (lines rs ps)
    short_taken = part_count takes is_taken ShortTerm refl plain_taken rs ps

    pub short_leads : tally leads (part ShortTerm rs ps) ≡ in_role ShortTerm 1 (lines rs ps)
    short_leads = part_count leads (λ p. eqb (role p) 1) ShortTerm refl plain_leads rs ps

    pub short_seconds : tally seconds (part ShortTerm rs ps) ≡ in_role ShortTerm 2 (lines rs ps)
    short_seconds = part_count seconds (λ p. eqb (role p) 2) ShortTerm refl plain_seconds rs ps

    pub special_taken : tally takes (part Special rs ps) ≡ taken Special (lines rs ps)
    special_taken = part_count takes is_taken Special refl lone_taken rs ps

    pub special_leads : tally leads (part Special rs ps) ≡ taken Special (lines rs ps)
    special_leads = part_count leads is_taken Special refl lone_leads rs ps

  none_false : (k : Kind) (rs : List (Record V)) (ps : List Pick) → count (λ l. is_of_kind k l.0.kind && false) (lines rs ps) ≡ 0
  none_false k [] ps = refl
  none_false k (r ∷ rs) [] = refl
  none_false k (r ∷ rs) (p ∷ ps) = ap₂ ◌+◌ (both (is_of_kind k r.kind)) (none_false k rs ps)
    where
      both : (b : Bool) → ◌≡◌ {A = ℕ} (cond (b && false) 1 0) 0
      both true = refl
      both false = refl

  pub special_seconds : (rs : List (Record V)) (ps : List Pick) → tally seconds (part Special rs ps) ≡ 0
  special_seconds rs ps = part_count seconds (λ p. false) Special refl lone_seconds rs ps ∙ none_false Special rs ps

  pub length_part : (k : Kind) (rs : List (Record V)) (ps : List Pick) → length ps ≡ length rs → length (part k rs ps) ≡ length rs
  length_part k [] ps h = refl
  length_part k (r ∷ rs) [] h = absurd (omega arith)
  length_part k (r ∷ rs) (p ∷ ps) h = ap suc (length_part k rs ps (omega arith))

  pub part_within : (k : Kind) (rs : List (Record V)) (ps : List Pick) (j : ℕ) → takes (get_or (part k rs ps) j None) ≡ 1 → Marked (mask k rs) j
  part_within k [] ps j h = absurd (omega arith)
  part_within k (r ∷ rs) [] j h = absurd (omega arith)
  part_within k (r ∷ rs) (p ∷ ps) zero h = cond_taken (is_of_kind k r.kind) (role_at k p) h
  part_within k (r ∷ rs) (p ∷ ps) (suc j) h = part_within k rs ps j h
