-- A last field and its line end.
-- Assumes nothing.
use Rattle.std.proofs.Common.{true, decimal, refl}
use Rattle.lines.specs.Numeral.{Short}
use Rattle.lines.specs.Reading.{Anything, Ends, before, byte, last_field, led}
use Rattle.lines.proofs.Readings.{decimal_token}
use Rattle.lines.proofs.Sequences.{Form, Sequence, form, line_end}
use Rattle.lines.proofs.Spellings.{field_form, token_spelling}

pub last_field_lem : Sequence 0 Short (led true decimal) Ends (λ n. Anything) (λ n. before (byte 10)) Anything (λ n u. n) Short last_field
last_field_lem = record {
  first = field_form (token_spelling decimal_token) true;
  follows = λ n u t ok any. refl;
  made = λ n u ok any. ok;
  joined = λ n u t ok any. refl;
  parts = λ n ok. (n, tt, refl, ok, tt);
}

pub last_field_form : Form 1 Short last_field Anything
last_field_form = form last_field_lem (λ n ok. line_end)
