-- What a choice comes to, and which effect is the worst.
use Rattle.std.specs.Prelude.{◌≡◌, ℕ, ◌*◌, cond, List, map, length, take, ◌≢◌}
use Rattle.std.specs.List.{AllByRecursion}
use Rattle.effect.specs.Laws.{Operations, AtMost}
use Rattle.effect.specs.Sums.{total}
use Rattle.loads.specs.declared.kinds.Kind.{Kind}
use Rattle.loads.specs.declared.kinds.Kind.TheVariants.{Permanent, LongTerm, ShortTerm, Special}
use Rattle.loads.specs.declared.records.Record.{Record}
use Rattle.norm.specs.Percentages.{Percentages}
use Rattle.norm.specs.declared.terms.Term.TheVariants.{Long, Short}
use Rattle.reduction.specs.Factor.{factor_of}
use Rattle.combination.specs.Choices.{Line, lines, is_lower, is_taken, role, taken, Admissible}
use Rattle.combination.specs.declared.answers.Answer.{Answer}
use Rattle.combination.specs.declared.picks.Pick.{Pick}
use Rattle.combination.specs.declared.questions.Question.{Question}

-- the factor F of the reduction for area and storeys
abbrev pub factor : {E : Type 0} → Record E → ℕ
factor r = factor_of r.load.class r.load.area r.load.storeys

module _ {E : Type 0} (o : Operations E) where
  -- a permanent load always counts, by the factor that is chosen
  abbrev pub permanent : Pick → Record E → E
  permanent p r = o.times (cond (is_lower p) r.load.lower r.load.upper * 1000000) r.load.effect

  -- a long-term or short-term load counts where it is taken, by the percentage for its role
  abbrev pub temporary : (ℕ → ℕ) → Pick → Record E → E
  temporary percent p r = cond (is_taken p) (o.times (r.load.upper * factor r * percent (role p)) r.load.effect) o.nil

  -- a special load counts where it is taken
  abbrev pub special : Pick → Record E → E
  special p r = cond (is_taken p) (o.times (r.load.upper * 1000000) r.load.effect) o.nil

  -- what a record of a kind contributes, where nl long-term and nt short-term loads are taken
  abbrev pub contribution : Percentages → ℕ → ℕ → Kind → Pick → Record E → E
  contribution norm nl nt Permanent p r = permanent p r
  contribution norm nl nt LongTerm p r = temporary (λ i. norm Long i nl nt) p r
  contribution norm nl nt ShortTerm p r = temporary (λ i. norm Short i nl nt) p r
  contribution norm nl nt Special p r = special p r

  -- the contributions of a choice's lines
  abbrev pub contributions : Percentages → ℕ → ℕ → List (Line E) → List E
  contributions norm nl nt ls = map (λ l. contribution norm nl nt l.0.kind l.1 l.0) ls

  -- their sum, where the numbers taken are those of the choice
  abbrev pub comes_to : Percentages → List (Line E) → E
  comes_to norm ls = total o (contributions norm (taken LongTerm ls) (taken ShortTerm ls) ls)

-- the choice is admissible and comes to the effect, and every admissible choice comes to at most that
pub record Worst {E : Type 0} (o : Operations E) (norm : Percentages) (q : Question) (records : List (Record E)) (choice : List Pick) (effect : E) : Type 0 where
  pub admissible : Admissible q records choice
  pub reached : comes_to o norm (lines records choice) ≡ effect
  pub greatest : (any : List Pick) → Admissible q records any → AtMost o (comes_to o norm (lines records any)) effect

-- an answer shows the worst effect with a choice for these records
abbrev pub Answers : {E : Type 0} → Operations E → Percentages → Question → List (Record E) → Answer E → Type 0
Answers o norm q records a = Worst o norm q records (take (length records) a.picks) a.effect

abbrev pub NoSpecial : {E : Type 0} → List (Record E) → Type 0
NoSpecial records = AllByRecursion (λ r. r.kind ≢ Special) records
