-- The arguments of an entry, part by part.
-- Assumes nothing.
use Rattle.std.proofs.Common.{true, cond, [], ◌∷◌, decimal, refl, ap, arith}
use Rattle.effect.specs.Notations.{Notation, NotationLaws}
use Rattle.lines.specs.Numeral.{Short}
use Rattle.lines.specs.Reading.{Anything, Ends, led}
use Rattle.lines.proofs.Fields.{solid_field}
use Rattle.lines.proofs.Readings.{decimal_token}
use Rattle.lines.proofs.Sequences.{Form, Sequence, form}
use Rattle.lines.proofs.Spellings.{Spelling, field_form, token_spelling}
use Rattle.load_lines.specs.Loads.{LegibleLoad, load_end}
use Rattle.load_lines.proofs.LoadForm.{load_form}
use Rattle.calls.specs.Entries.{IsByte, Letter, LegibleEntry, LegibleStart, entry_end, letter_text, start_text}

pub letter_spelling : Spelling IsByte Letter letter_text
letter_spelling = record {
  knows = λ l ok. ok.0;
  text = λ l ok. (omega arith, ap (λ t. cond t [] (l ∷ [])) ok.1);
  valid_from = λ l known text. (known, (solid_field (l ∷ []) text.1).0);
  same = λ l m p q e. cc;
}

pub start : Sequence 0 Short (led true decimal) Ends (λ n. Letter) (λ n. led true letter_text) Ends (λ n l. (n, l)) LegibleStart start_text
start = record {
  first = field_form (token_spelling decimal_token) true;
  follows = λ n l t ok ends. refl;
  made = λ n l short letter. (short, letter);
  joined = λ n l t short letter. refl;
  parts = λ p ok. (p.0, p.1, refl, ok.0, ok.1);
}

module _ {E : Type 0} (w : Notation E) (laws : NotationLaws w) where
  pub entry_line : Sequence 0 LegibleStart start_text Ends (λ p. LegibleLoad w) (λ p. load_end w) Anything (λ p x. record { number = p.0; letter = p.1; load = x }) (LegibleEntry w) (entry_end w)
  entry_line = record {
    first = form start (λ n ok. field_form letter_spelling true);
    follows = λ p x t ok any. refl;
    made = λ p x first load. (first.0, first.1, load);
    joined = λ p x t first load. refl;
    parts = λ x ok. ((x.number, x.letter), x.load, refl, (ok.0, ok.1), ok.2);
  }

  pub entry_form : Form 1 (LegibleEntry w) (entry_end w) Anything
  entry_form = form entry_line (λ p ok. load_form w laws)
