-- The parts of a choice that is put together from choices of each kind.
use Rattle.std.proofs.Common.{◌≡◌, ℕ, zero, suc, ◌<◌, ◌≤◌, true, false, cond, List, [], ◌∷◌, map, length, get_or, Ordering, Less, Equal, Greater, refl, ap, ◌∙◌, ap₂, inl, inr, arith, Some, None, Option}
use Rattle.std.proofs.lemmas.Bool.{both_ways}
use Rattle.std.specs.List.{AllByRecursion}
use Rattle.effect.specs.Laws.{Operations}
use Rattle.questions.specs.PartChoices.{leads, Marked}
use Rattle.questions.specs.PartChoices.{taken as takes, count as tally}
use Rattle.norm.specs.declared.roles.Role.{Role}
use Rattle.norm.specs.declared.roles.Role.TheVariants.{Leading, Second, Other}
use Rattle.loads.specs.declared.kinds.Kind.{Kind}
use Rattle.loads.specs.declared.kinds.Kind.TheVariants.{Permanent, LongTerm, ShortTerm, Special}
use Rattle.loads.specs.declared.records.Record.{Record}
use Rattle.combination.specs.Choices.{is_of_kind, lines, picks_for, Fits}
use Rattle.combination.specs.Lists.{Among}
use Rattle.questions.specs.Parts.{plain, lone, role_at, given, taken_as, part, mask, fixed, fixed_sum, by_order, best_factor, placed, merged}
use Rattle.combination.specs.Worst.{permanent}
use Rattle.combination.specs.declared.picks.Pick.TheVariants as pick

out_of : (x : Option Role) → (takes x ≡ 1 → ⊥) → None ≡ x
out_of None h = refl
out_of (Some r) h = absurd (h refl)

plain_given : (x : Option Role) → plain (given x) ≡ x
plain_given None = refl
plain_given (Some r) = refl

among_given : (x : Option Role) → Among (picks_for LongTerm) (given x)
among_given None = inl refl
among_given (Some Leading) = inr (inl refl)
among_given (Some Second) = inr (inr (inl refl))
among_given (Some Other) = inr (inr (inr (inl refl)))

among_taken : (x : Option Role) → Among (picks_for Special) (taken_as x)
among_taken None = inl refl
among_taken (Some r) = inr (inl refl)

leads_one : (x : Option Role) → leads x ≤ takes x
leads_one None = omega arith
leads_one (Some Leading) = omega arith
leads_one (Some Second) = omega arith
leads_one (Some Other) = omega arith

pub leads_most : (xs : List (Option Role)) → tally leads xs ≤ tally takes xs
leads_most [] = omega arith
leads_most (x ∷ xs) = omega (arith, leads_one x, leads_most xs)

-- where each taken record leads, a pick that takes it gives its role back
lone_one : (x : Option Role) → takes x ≤ leads x → lone (taken_as x) ≡ x
lone_one None h = refl
lone_one (Some Leading) h = refl
lone_one (Some Second) h = absurd (omega arith)
lone_one (Some Other) h = absurd (omega arith)

no : false ≡ true → ⊥
no h = both_ways false refl h

module _ {V : Type 0} (e : Operations V) where
  among_factor : (o : Ordering) → Among (picks_for Permanent) (by_order e o)
  among_factor Less = inl refl
  among_factor Equal = inl refl
  among_factor Greater = inr (inl refl)

  fits_placed : (kd : Kind) (r : Record V) (l t s : Option Role) → Among (picks_for kd) (placed e kd r l t s)
  fits_placed Permanent r l t s = among_factor (e.order (permanent e pick.Lower r) (permanent e pick.Upper r))
  fits_placed LongTerm r l t s = among_given l
  fits_placed ShortTerm r l t s = among_given t
  fits_placed Special r l t s = among_taken s

  pub length_merged : (rs : List (Record V)) (l t s : ℕ → Option Role) → length (merged e rs l t s) ≡ length rs
  length_merged [] l t s = refl
  length_merged (r ∷ rs) l t s = ap suc (length_merged rs (λ k. l (suc k)) (λ k. t (suc k)) (λ k. s (suc k)))

  pub fits_merged : (rs : List (Record V)) (l t s : ℕ → Option Role) → AllByRecursion Fits (lines rs (merged e rs l t s))
  fits_merged [] l t s = tt
  fits_merged (r ∷ rs) l t s = (fits_placed r.kind r (l 0) (t 0) (s 0), fits_merged rs (λ k. l (suc k)) (λ k. t (suc k)) (λ k. s (suc k)))

  factor_placed : (kd : Kind) (r : Record V) (l t s : Option Role) → fixed e kd (placed e kd r l t s) r ≡ fixed e kd (best_factor e r) r
  factor_placed Permanent r l t s = refl
  factor_placed LongTerm r l t s = refl
  factor_placed ShortTerm r l t s = refl
  factor_placed Special r l t s = refl

  pub factors_merged : (rs : List (Record V)) (l t s : ℕ → Option Role) → AllByRecursion (λ x. fixed e x.0.kind x.1 x.0 ≡ fixed e x.0.kind (best_factor e x.0) x.0) (lines rs (merged e rs l t s))
  factors_merged [] l t s = tt
  factors_merged (r ∷ rs) l t s = (factor_placed r.kind r (l 0) (t 0) (s 0), factors_merged rs (λ k. l (suc k)) (λ k. t (suc k)) (λ k. s (suc k)))

  long_placed : (kd : Kind) (r : Record V) (l t s : Option Role) → (takes l ≡ 1 → is_of_kind LongTerm kd ≡ true) → cond (is_of_kind LongTerm kd) (role_at LongTerm (placed e kd r l t s)) None ≡ l
  long_placed Permanent r l t s h = out_of l (λ x. no (h x))
  long_placed LongTerm r l t s h = plain_given l
  long_placed ShortTerm r l t s h = out_of l (λ x. no (h x))
  long_placed Special r l t s h = out_of l (λ x. no (h x))

  short_placed : (kd : Kind) (r : Record V) (l t s : Option Role) → (takes t ≡ 1 → is_of_kind ShortTerm kd ≡ true) → cond (is_of_kind ShortTerm kd) (role_at ShortTerm (placed e kd r l t s)) None ≡ t
  short_placed Permanent r l t s h = out_of t (λ x. no (h x))
  short_placed LongTerm r l t s h = out_of t (λ x. no (h x))
  short_placed ShortTerm r l t s h = plain_given t
  short_placed Special r l t s h = out_of t (λ x. no (h x))

  special_placed : (kd : Kind) (r : Record V) (l t s : Option Role) → takes s ≤ leads s → (takes s ≡ 1 → is_of_kind Special kd ≡ true) → cond (is_of_kind Special kd) (role_at Special (placed e kd r l t s)) None ≡ s
  special_placed Permanent r l t s m h = out_of s (λ x. no (h x))
  special_placed LongTerm r l t s m h = out_of s (λ x. no (h x))
  special_placed ShortTerm r l t s m h = out_of s (λ x. no (h x))
  special_placed Special r l t s m h = lone_one s m

  pub part_long : (rs : List (Record V)) (ls : List (Option Role)) (t s : ℕ → Option Role) → length ls ≡ length rs → ((k : ℕ) → takes (get_or ls k None) ≡ 1 → Marked (mask LongTerm rs) k) → part LongTerm rs (merged e rs (λ k. get_or ls k None) t s) ≡ ls
  part_long [] [] t s same h = refl
  part_long [] (x ∷ ls) t s same h = absurd (omega arith)
  part_long (r ∷ rs) [] t s same h = absurd (omega arith)
  part_long (r ∷ rs) (x ∷ ls) t s same h = ap₂ ◌∷◌ (long_placed r.kind r x (t 0) (s 0) (h 0)) (part_long rs ls (λ k. t (suc k)) (λ k. s (suc k)) (omega arith) (λ k. h (suc k)))

  pub part_short : (rs : List (Record V)) (l : ℕ → Option Role) (ts : List (Option Role)) (s : ℕ → Option Role) → length ts ≡ length rs → ((k : ℕ) → takes (get_or ts k None) ≡ 1 → Marked (mask ShortTerm rs) k) → part ShortTerm rs (merged e rs l (λ k. get_or ts k None) s) ≡ ts
  part_short [] l [] s same h = refl
  part_short [] l (x ∷ ts) s same h = absurd (omega arith)
  part_short (r ∷ rs) l [] s same h = absurd (omega arith)
  part_short (r ∷ rs) l (x ∷ ts) s same h = ap₂ ◌∷◌ (short_placed r.kind r (l 0) x (s 0) (h 0)) (part_short rs (λ k. l (suc k)) ts (λ k. s (suc k)) (omega arith) (λ k. h (suc k)))

  pub part_special : (rs : List (Record V)) (l t : ℕ → Option Role) (ss : List (Option Role)) → length ss ≡ length rs → tally takes ss ≤ tally leads ss → ((k : ℕ) → takes (get_or ss k None) ≡ 1 → Marked (mask Special rs) k) → part Special rs (merged e rs l t (λ k. get_or ss k None)) ≡ ss
  part_special [] l t [] same m h = refl
  part_special [] l t (x ∷ ss) same m h = absurd (omega arith)
  part_special (r ∷ rs) l t [] same m h = absurd (omega arith)
  part_special (r ∷ rs) l t (x ∷ ss) same m h =
      let one : leads x ≤ takes x = leads_one x in
      ap₂ ◌∷◌ (special_placed r.kind r (l 0) (t 0) x (omega (arith, leads_most ss)) (h 0)) (part_special rs (λ k. l (suc k)) (λ k. t (suc k)) ss (omega arith) (omega arith) (λ k. h (suc k)))

  -- only the roles of the records count
  pub merged_same : (rs : List (Record V)) (l t s l' t' s' : ℕ → Option Role) → ((k : ℕ) → k < length rs → l k ≡ l' k) → ((k : ℕ) → k < length rs → t k ≡ t' k) → ((k : ℕ) → k < length rs → s k ≡ s' k) → merged e rs l t s ≡ merged e rs l' t' s'
  merged_same [] l t s l' t' s' hl ht hs = refl
  merged_same (r ∷ rs) l t s l' t' s' hl ht hs =
      ap₂ ◌∷◌
      (ap (λ (x : Option Role). placed e r.kind r x (t 0) (s 0)) (hl 0 (omega arith)) ∙ ap (λ (x : Option Role). placed e r.kind r (l' 0) x (s 0)) (ht 0 (omega arith)) ∙ ap (λ (x : Option Role). placed e r.kind r (l' 0) (t' 0) x) (hs 0 (omega arith)))
      (merged_same rs (λ k. l (suc k)) (λ k. t (suc k)) (λ k. s (suc k)) (λ k. l' (suc k)) (λ k. t' (suc k)) (λ k. s' (suc k)) (λ k h. hl (suc k) (omega arith)) (λ k h. ht (suc k) (omega arith)) (λ k h. hs (suc k) (omega arith)))

  -- the pick of the record at a place
  pub merged_at : (rs : List (Record V)) (l t s : ℕ → Option Role) (k : ℕ) (r : Record V) → k < length rs → get_or (merged e rs l t s) k pick.Out ≡ placed e (get_or rs k r).kind (get_or rs k r) (l k) (t k) (s k)
  merged_at [] l t s k r h = absurd (omega arith)
  merged_at (x ∷ rs) l t s zero r h = refl
  merged_at (x ∷ rs) l t s (suc k) r h = merged_at rs (λ j. l (suc j)) (λ j. t (suc j)) (λ j. s (suc j)) k r (omega arith)

  -- the permanent loads by their best factors
  pub fixed_same : (rs : List (Record V)) (l t s : ℕ → Option Role) → fixed_sum e rs (merged e rs l t s) ≡ fixed_sum e rs (map (best_factor e) rs)
  fixed_same [] l t s = refl
  fixed_same (r ∷ rs) l t s = ap₂ e.plus (factor_placed r.kind r (l 0) (t 0) (s 0)) (fixed_same rs (λ k. l (suc k)) (λ k. t (suc k)) (λ k. s (suc k)))
