-- Small lists of loads and their worst effects, in units of 0.00000001 N or N·m.
use Rattle.std.specs.Prelude.{◌≡◌, ℕ, List, [], ◌∷◌, pos, negsuc}
use Rattle.effect.specs.Models.{forces, moments, of_force, of_pair}
use Rattle.effect.specs.Laws.{Operations}
use Rattle.effect.specs.declared.newtons.N.{N}
use Rattle.effect.specs.declared.moments.NM.{NM}
use Rattle.norm.specs.Percentages.{Percentages}
use Rattle.norm.specs.Tables.{sp20, sp20_special, snip85, snip85_special}
use Rattle.norm.specs.declared.roles.Role.TheVariants.{Leading}
use Rattle.loads.specs.declared.kinds.Kind.{Kind}
use Rattle.loads.specs.declared.kinds.Kind.TheVariants.{Permanent, LongTerm, ShortTerm, Special}
use Rattle.loads.specs.declared.records.Record.{Record}
use Rattle.combination.specs.Choices.{lines}
use Rattle.combination.specs.Worst.{comes_to, Worst}
use Rattle.combination.specs.declared.picks.Pick.{Pick}
use Rattle.combination.specs.declared.picks.Pick.TheVariants.{As}
use Rattle.combination.specs.declared.questions.Question.{Question}
use Rattle.combination.specs.declared.questions.Question.TheVariants.{Basic, WithSpecial}

-- a load that is not reduced, with its kind, group, upper and lower factor and effect
abbrev load : {E : Type 0} → ℕ → Kind → ℕ → ℕ → ℕ → E → Record E
load n k g u l e = record { number = n; kind = k; load = record { group = g; upper = u; lower = l; class = 0; area = 0; storeys = 0; effect = e } }

-- L 4 N and T 100 N
abbrev pub long_and_short : List (Record N)
long_and_short = load 1 LongTerm 0 100 0 (of_force (pos 4)) ∷ load 2 ShortTerm 0 100 0 (of_force (pos 100)) ∷ []

-- P −10 N
abbrev pub relieving : List (Record N)
relieving = load 1 Permanent 0 110 90 (of_force (negsuc 9)) ∷ []

-- T −50 N
abbrev pub uplift : List (Record N)
uplift = load 1 ShortTerm 0 100 0 (of_force (negsuc 49)) ∷ []

-- P 10 N, S 20 N and T 100 N
abbrev pub three_kinds : List (Record N)
three_kinds = load 1 Permanent 0 100 100 (of_force (pos 10)) ∷ load 2 Special 0 100 0 (of_force (pos 20)) ∷ load 3 ShortTerm 0 100 0 (of_force (pos 100)) ∷ []

-- T (100, 5) and T (100, 9) in one group
abbrev pub one_group : List (Record NM)
one_group = load 1 ShortTerm 7 100 0 (of_pair (pos 100) (pos 5)) ∷ load 2 ShortTerm 7 100 0 (of_pair (pos 100) (pos 9)) ∷ []

-- e is the worst effect: some choice has it
abbrev pub WorstEffect : {E : Type 0} → Operations E → Percentages → Question → List (Record E) → E → Type 0
WorstEffect o norm q records e = (choice : List Pick) × Worst o norm q records choice e

-- what holds under each of the two norms, by their basic and their special percentages
abbrev pub BothNorms : (Percentages → Percentages → Type 0) → Type 0
BothNorms P = P sp20 sp20_special × P snip85 snip85_special

pub record Combinations : Type 0 where
  -- 100 N, and not the 93.8 N of both loads together
  pub larger_alone : WorstEffect forces snip85 Basic long_and_short (of_force (pos 10000000000))
  pub together : comes_to forces snip85 (lines long_and_short (As Leading ∷ As Leading ∷ [])) ≡ of_force (pos 9380000000)
  -- −9 N: the lower factor on a relieving load
  pub lower_factor : BothNorms (λ basic special. WorstEffect forces basic Basic relieving (of_force (negsuc 899999999)))
  pub blank : BothNorms (λ basic special. WorstEffect forces basic Basic [] (of_force (pos 0)))
  pub left_out : BothNorms (λ basic special. WorstEffect forces basic Basic uplift (of_force (pos 0)))
  -- 110 N
  pub with_special : BothNorms (λ basic special. WorstEffect forces special WithSpecial three_kinds (of_force (pos 11000000000)))
  -- 100 N with 9 N·m
  pub by_moment : BothNorms (λ basic special. WorstEffect moments basic Basic one_group (of_pair (pos 10000000000) (pos 900000000)))
