-- The line of a record as a number and then a load.
-- Assumes nothing.
use Rattle.std.proofs.Common.{false, decimal, refl}
use Rattle.effect.specs.Notations.{Notation, NotationLaws}
use Rattle.lines.specs.Numeral.{Short}
use Rattle.lines.specs.Reading.{Anything, Ends, before}
use Rattle.lines.proofs.Readings.{decimal_token}
use Rattle.lines.proofs.Sequences.{Form, Sequence, form}
use Rattle.lines.proofs.Spellings.{field_form, token_spelling}
use Rattle.load_lines.specs.Loads.{LegibleLoad, load_end}
use Rattle.load_lines.proofs.LoadForm.{load_form}
use Rattle.sheet_lines.specs.Bodies.{LegibleBody, body_line}

module _ {E : Type 0} (w : Notation E) where
  pub body : Sequence 0 Short (before decimal) Ends (λ n. LegibleLoad w) (λ n. load_end w) Anything (λ n x. (n, x)) (LegibleBody w) (body_line w)
  body = record {
    first = field_form (token_spelling decimal_token) false;
    follows = λ n x t ok any. refl;
    made = λ n x short load. (short, load);
    joined = λ n x t short load. refl;
    parts = λ p ok. (p.0, p.1, refl, ok.0, ok.1);
  }

  pub body_form : NotationLaws w → Form 1 (LegibleBody w) (body_line w) Anything
  body_form laws = form body (λ n ok. load_form w laws)
