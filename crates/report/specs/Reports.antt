-- The report of a sheet: line 1 of its text, the worst basic combination, and the worst special one.
use Rattle.std.specs.Prelude.{ℕ, List, [], ◌∷◌, ◌++◌, Ok, Err, codes, Result}
use Rattle.effect.specs.Laws.{Operations}
use Rattle.effect.specs.Notations.{Notation}
use Rattle.norm.specs.Percentages.{Percentages}
use Rattle.refusals.specs.declared.Refusal.{Refusal}
use Rattle.loads.specs.declared.records.Record.{Record}
use Rattle.load_lines.specs.declared.names.Names.{Names}
use Rattle.sheet_lines.specs.Heading.{names_line}
use Rattle.combination.specs.declared.answers.Answer.{Answer}
use Rattle.combination.specs.declared.questions.Question.TheVariants.{Basic, WithSpecial}
use Rattle.answer_lines.specs.Lines.{answer_text}
use Rattle.history.specs.History.{NormAnswers}
use Rattle.history.specs.Questions.{BasicAsked, SpecialAsked}
use Rattle.writing.specs.Writing.{Fitted}

module _ {E : Type 0} (w : Notation E) where
  -- the answer to the special question, or SPECIAL NONE where it is refused
  abbrev pub special_text : Percentages → List (Record E) → Result (Answer E) Refusal → List ℕ
  special_text norm records (Ok a) = answer_text w norm WithSpecial records a
  special_text norm records (Err e) = codes "SPECIAL NONE" ++ 10 ∷ []

  -- the names, and the answers to both questions
  abbrev pub report_text : Names → NormAnswers → List (Record E) → Answer E → Result (Answer E) Refusal → List ℕ
  report_text names norm records basic special = names_line names (answer_text w norm.basic Basic records basic ++ special_text norm.special records special)

-- the report of a sheet of p places that holds b was written into a buffer, or had no room: it shows the answers to both questions
pub record Reported {E : Type 0} (o : Operations E) (w : Notation E) (names : Names) (norm : NormAnswers) (p : ℕ) (b : List (Record E)) (before : List ℕ) (r : Result ℕ Refusal) (after : List ℕ) : Type 0 where
  pub basic : Answer E
  pub special : Result (Answer E) Refusal
  pub basic_asked : BasicAsked o norm.basic p b basic
  pub special_asked : SpecialAsked o norm p b special
  pub written : Fitted (report_text w names norm b basic special) before r after
