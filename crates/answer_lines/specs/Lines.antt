-- The lines that show an answer: the question with the effect, and then the choice.
use Rattle.std.specs.Prelude.{ℕ, Bool, cond, ◌&&◌, List, [], ◌∷◌, ◌++◌, decimal, ◌==◌}
use Rattle.effect.specs.Notations.{Notation}
use Rattle.loads.specs.Letters.{letter_of}
use Rattle.loads.specs.declared.kinds.Kind.TheVariants.{Permanent, LongTerm, ShortTerm, Special}
use Rattle.loads.specs.declared.records.Record.{Record}
use Rattle.norm.specs.Percentages.{Percentages}
use Rattle.norm.specs.Roles.{role_number}
use Rattle.norm.specs.declared.roles.Role.TheVariants.{Leading, Second, Other}
use Rattle.norm.specs.declared.terms.Term.TheVariants.{Long, Short}
use Rattle.combination.specs.Choices.{Line, lines, is_of_kind, is_lower, is_taken, role, taken}
use Rattle.combination.specs.declared.answers.Answer.{Answer}
use Rattle.combination.specs.declared.questions.Question.{Question}
use Rattle.combination.specs.Words.{question_word}
use Rattle.lines.specs.Reading.{spaced}
use Rattle.writing.specs.Writing.{signed_fixed8}
use Rattle.answer_lines.specs.declared.sections.Section.{Section}
use Rattle.answer_lines.specs.declared.sections.Section.TheVariants.{Factors, InRole, Taken}

-- P in sheet order, L by role, T by role, those of role 3 in sheet order, and S last, where nl long-term and nt short-term loads are taken
abbrev pub sections : Percentages → ℕ → ℕ → List Section
sections norm nl nt =
    Factors
    ∷ InRole LongTerm Leading (norm Long 1 nl nt)
    ∷ InRole LongTerm Second (norm Long 2 nl nt)
    ∷ InRole LongTerm Other (norm Long 3 nl nt)
    ∷ InRole ShortTerm Leading (norm Short 1 nl nt)
    ∷ InRole ShortTerm Second (norm Short 2 nl nt)
    ∷ InRole ShortTerm Other (norm Short 3 nl nt)
    ∷ Taken
    ∷ []

module _ {E : Type 0} where
  -- which records a section shows: the permanent loads, those of a kind in a role, the special load that is taken
  abbrev pub shows : Section → Line E → Bool
  shows Factors l = is_of_kind Permanent l.0.kind
  shows (InRole k r p) l = is_of_kind k l.0.kind && role l.1 == role_number r
  shows Taken l = is_of_kind Special l.0.kind && is_taken l.1

  -- what it shows of a record besides its number and kind: the chosen factor; role and percentage; nothing
  abbrev pub details : Section → Line E → List ℕ
  details Factors l = cond (is_lower l.1) l.0.load.lower l.0.load.upper ∷ []
  details (InRole k r p) l = role_number r ∷ (p ∷ [])
  details Taken l = []

  -- number, kind and details, split by one blank, and the line end
  abbrev pub line_text : Section → Line E → List ℕ
  line_text s l = decimal l.0.number ++ (32 ∷ (letter_of l.0.kind ∷ spaced decimal (details s l) (10 ∷ [])))

  -- the records that a section shows, a line each, in their order
  abbrev pub section_text : Section → List (Line E) → List ℕ
  section_text s [] = []
  section_text s (l ∷ ls) = cond (shows s l) (line_text s l) [] ++ section_text s ls

  -- the sections one after the other
  abbrev pub sections_text : List Section → List (Line E) → List ℕ
  sections_text [] ls = []
  sections_text (s ∷ ss) ls = section_text s ls ++ sections_text ss ls

  abbrev pub choice_text : Percentages → List (Line E) → List ℕ
  choice_text norm ls = sections_text (sections norm (taken LongTerm ls) (taken ShortTerm ls)) ls

-- the question's word and the numbers of the effect with eight decimals, split by one blank, the line end, and the choice
abbrev pub answer_text : {E : Type 0} → Notation E → Percentages → Question → List (Record E) → Answer E → List ℕ
answer_text w norm q records a = question_word q ++ spaced signed_fixed8 (w.numbers a.effect) (10 ∷ choice_text norm (lines records a.picks))
