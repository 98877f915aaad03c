-- The first line as two names and then a number.
-- Assumes nothing.
use Rattle.std.proofs.Common.{ℕ, ◌<◌, List, length, refl, arith, length-append}
use Rattle.lines.specs.Numeral.{Short}
use Rattle.lines.specs.Reading.{Anything, Ends, last_field}
use Rattle.lines.proofs.Lasts.{last_field_form}
use Rattle.lines.proofs.Sequences.{Form, Sequence, form}
use Rattle.load_lines.specs.Names.{names_text}
use Rattle.load_lines.proofs.NamesForm.{names_form}
use Rattle.calls.specs.Headers.{ShortPlaces, header_line}
use Rattle.calls.specs.declared.header.Header.{Header}

pub header : Sequence 0 Anything names_text Ends (λ p. Short) (λ p. last_field) Anything (λ p n. record { names = p; places = n }) ShortPlaces header_line
header = record {
  first = names_form;
  follows = λ p n t ok ends. refl;
  made = λ p n ok short. short;
  joined = λ p n t ok short. refl;
  parts = λ h ok. (h.names, h.places, refl, tt, ok);
}

pub header_form : Form 1 ShortPlaces header_line Anything
header_form = form header (λ p ok. last_field_form)

-- a line that is read leaves less of the text
pub header_longer : (h : Header) (t : List ℕ) → length t < length (header_line h t)
header_longer h t = simp length-append (omega arith)
