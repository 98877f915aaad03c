-- From the parts of a text to the whole.
-- Assumes nothing.
use Rattle.std.proofs.Common.{◌≡◌, ℕ, List, [], length, Some, Ok, Err, Result, sym, ◌∙◌, subst, ⊎_elim, arith}
use Rattle.std.proofs.lemmas.Bool.{cases_lt}
use Rattle.effect.specs.Laws.{Operations}
use Rattle.effect.specs.Notations.{Notation, NotationLaws}
use Rattle.loads.specs.declared.records.Record.{Record}
use Rattle.lines.specs.Lexing.{line_at, rest}
use Rattle.lines.specs.Reading.{Anything, ReadsLine}
use Rattle.lines.specs.declared.token.Tokens.{Tokens}
use Rattle.load_lines.specs.declared.names.Names.{Names}
use Rattle.refusals.specs.declared.Refusal.TheVariants.{Header}
use Rattle.sheet.specs.Held.{held, places_of}
use Rattle.sheet.specs.declared.store.Sheet.{Sheet}
use Rattle.sheet_lines.specs.Heading.{LegibleCounts, counts_line, due, names_line}
use Rattle.sheet_lines.specs.declared.counts.Counts.{Counts}
use Rattle.sheet_lines.specs.declared.fault.TextFault.{TextFault}
use Rattle.sheet_text.specs.Starts.{Headed}
use Rattle.sheet_text.specs.Texts.{Bodies, NoLine, OfSheet, ReadFrom, SheetText, TextOf, WholeOf, WholeText, counted, held_of, misread, named, no_names, too_long}
use Rattle.sheet_text.proofs.Back.{text_of}
use Rattle.sheet_text.proofs.Once.{text_once, whole_once}

module _ {E : Type 0} (o : Operations E) (w : Notation E) (p : ℕ) where
  -- the counts are read, and the bodies after them, on a blank sheet
  pub after_counts : (s t : Tokens) (c : Counts) (q : ℕ) (b : List (Record E)) (r : Result (List (Record E)) TextFault) → ReadsLine LegibleCounts counts_line s (Some c) t → q ≡ p → b ≡ [] → Bodies o w q b (line_at t) (due c) (rest t) r → SheetText o w p (line_at s) (rest s) r
  after_counts s t c q b r read places blank bodies =
      let at_places = subst (λ n. Bodies o w n b (line_at t) (due c) (rest t) r) places bodies in
      let on-blank = subst (λ l. Bodies o w p l (line_at t) (due c) (rest t) r) blank at_places in
      counted c (rest t) read.reads.0 read.reads.1 (subst (λ n. Bodies o w p [] n (due c) (rest t) r) read.next on-blank)

  module _ (laws : NotationLaws w) (k : ℕ) (text : List ℕ) where
    pub sheet_read : (r : Result (Sheet E) TextFault) → OfSheet r (λ sheet. places_of sheet ≡ p) → SheetText o w p k text (held_of r) → ReadFrom (SheetText o w p k text) (TextOf w text) p r
    sheet_read (Ok sheet) places due = record { due = due; only = λ q other. text_once o w laws p due other; places = places; back = text_of o w p due }
    sheet_read (Err f) places due = record { due = due; only = λ q other. text_once o w laws p due other; places = tt; back = tt }

  module _ (laws : NotationLaws w) (text : List ℕ) (s t : Tokens) (start : rest s ≡ text) where
    -- the text is too long, or has no names
    pub whole_faulty : (f : TextFault) → Headed (length text) s (Err f) t → ReadFrom (WholeText o w p text) (WholeOf w text) p (Err f)
    whole_faulty f headed =
        let due : WholeText o w p text (Err (misread Header 1)) = ⊎_elim too_long (λ few. no_names (subst (NoLine Anything names_line) start (headed.0 few))) (cases_lt 4096 (length text)) in
        let is = subst (λ x. WholeText o w p text (Err x)) (sym headed.1) due in
        record { due = is; only = λ q other. whole_once o w laws p is other; places = tt; back = tt }

    whole_due : (x : Names) (q : Result (List (Record E)) TextFault) → line_at s ≡ 1 → Headed (length text) s (Ok x) t → SheetText o w p (line_at t) (rest t) q → WholeText o w p text q
    whole_due x q first headed due =
        let second : line_at t ≡ 2 = omega (arith, headed.2) in
        named x (rest t) headed.0 (sym start ∙ headed.1) (subst (λ k. SheetText o w p k (rest t) q) second due)

    -- the rest of the text is read
    pub whole_read : (x : Names) (r : Result (Sheet E) TextFault) → line_at s ≡ 1 → Headed (length text) s (Ok x) t → ReadFrom (SheetText o w p (line_at t) (rest t)) (TextOf w (rest t)) p r → ReadFrom (WholeText o w p text) (WholeOf w text) p r
    whole_read x (Ok sheet) first headed read =
        let is = whole_due x (Ok (held sheet)) first headed read.due in
        record {
          due = is;
          only = λ q other. whole_once o w laws p is other;
          places = read.places;
          back = record { names = x; after = rest t; first = sym start ∙ headed.1; others = read.back };
        }
    whole_read x (Err f) first headed read =
        let is = whole_due x (Err f) first headed read.due in
        record { due = is; only = λ q other. whole_once o w laws p is other; places = tt; back = tt }
