-- What comes of a sheet's text: its report, or the refusal that is due.
use Rattle.std.specs.Prelude.{◌≡◌, ℕ, List, Ok, Err, Result}
use Rattle.effect.specs.Laws.{Operations}
use Rattle.effect.specs.Models.{forces, one_number, moments, two_numbers}
use Rattle.effect.specs.Notations.{Notation}
use Rattle.effect.specs.declared.names.EffectName.TheVariants.{N, Nm}
use Rattle.refusals.specs.declared.Refusal.{Refusal}
use Rattle.loads.specs.declared.records.Record.{Record}
use Rattle.combination.specs.Worst.{Answers, NoSpecial}
use Rattle.combination.specs.declared.answers.Answer.{Answer}
use Rattle.combination.specs.declared.questions.Question.TheVariants.{Basic, WithSpecial}
use Rattle.history.specs.History.{NormAnswers}
use Rattle.load_lines.specs.declared.names.Names.{Names}
use Rattle.sheet_lines.specs.Faults.{in_line}
use Rattle.sheet_lines.specs.declared.fault.Layer.TheVariants.{Writing}
use Rattle.sheet_lines.specs.declared.fault.TextFault.{TextFault}
use Rattle.sheet_text.specs.Starts.{NamesOf}
use Rattle.sheet_text.specs.Texts.{WholeText}
use Rattle.report.specs.Reports.{report_text}
use Rattle.writing.specs.Writing.{Fitted}
use Rattle.text_report.specs.Norms.{norm_of}

-- a refusal to write is of no line
abbrev pub written_of : Result ℕ Refusal → Result ℕ TextFault
written_of r = in_line Writing r 0

module _ {E : Type 0} (o : Operations E) (w : Notation E) where
  -- the worst special combination of b, or there is no special load
  abbrev pub SpecialWorst : NormAnswers → List (Record E) → Result (Answer E) Refusal → Type 0
  SpecialWorst norm b (Ok a) = Answers o norm.special WithSpecial b a
  SpecialWorst norm b (Err e) = NoSpecial b

  -- text is the report of the records b: it shows their worst combinations
  pub record ReportOf (names : Names) (norm : NormAnswers) (b : List (Record E)) (text : List ℕ) : Type 0 where
    pub basic : Answer E
    pub special : Result (Answer E) Refusal
    pub basic_worst : Answers o norm.basic Basic b basic
    pub special_worst : SpecialWorst norm b special
    pub is : text ≡ report_text w names norm b basic special

  -- what comes of a text whose effects are of this type, on a sheet of p places, and of the buffer for its report: a fault of the text leaves the buffer, and the report of a sheet is written whole or not at all
  pub data FromText (names : Names) (norm : NormAnswers) (p : ℕ) (text before : List ℕ) (out : Result ℕ TextFault) (after : List ℕ) : Type 0 where
    faulty : (f : TextFault) → WholeText o w p text (Err f) → out ≡ Err f → after ≡ before → FromText names norm p text before out after
    reported : (b : List (Record E)) (report : List ℕ) (r : Result ℕ Refusal)
        → WholeText o w p text (Ok b) → ReportOf names norm b report → Fitted report before r after → out ≡ written_of r → FromText names norm p text before out after

-- the same under a norm, of the effect type that the names say, with pn places for forces and pm for forces with moments
pub data OfEffect (norm : NormAnswers) (pn pm : ℕ) (names : Names) (text before : List ℕ) (out : Result ℕ TextFault) (after : List ℕ) : Type 0 where
  by_forces : names.effect ≡ N → FromText forces one_number names norm pn text before out after → OfEffect norm pn pm names text before out after
  by_moments : names.effect ≡ Nm → FromText moments two_numbers names norm pm text before out after → OfEffect norm pn pm names text before out after

-- the same of any text: the names in its first line say which norm and which effect type, with pn places for forces and pm for forces with moments
pub data FromAnyText (pn pm : ℕ) (text before : List ℕ) (out : Result ℕ TextFault) (after : List ℕ) : Type 0 where
  unnamed : (f : TextFault) → NamesOf text (Err f) → out ≡ Err f → after ≡ before → FromAnyText pn pm text before out after
  of_forces : (names : Names) → NamesOf text (Ok names) → names.effect ≡ N → FromText forces one_number names (norm_of names.norm) pn text before out after → FromAnyText pn pm text before out after
  of_moments : (names : Names) → NamesOf text (Ok names) → names.effect ≡ Nm → FromText moments two_numbers names (norm_of names.norm) pm text before out after → FromAnyText pn pm text before out after
