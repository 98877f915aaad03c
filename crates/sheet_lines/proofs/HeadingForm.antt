-- The first two lines, part by part.
-- Assumes nothing.
use Rattle.std.proofs.Common.{Decides, ◌≡◌, ℕ, Bool, true, false, List, ◌∷◌, Some, None, decimal, Option, refl, arith}
use Rattle.loads.specs.declared.kinds.Kind.{Kind}
use Rattle.loads.specs.declared.kinds.Kind.TheVariants.{Permanent, LongTerm, ShortTerm, Special}
use borrow.Author.Tests.{clash}
use Rattle.std.specs.Bool.{then_some}
use Rattle.lines.specs.Numeral.{Short, Spelt}
use Rattle.lines.specs.Reading.{Anything, Ends, FieldText, Reads, before, byte, led}
use Rattle.lines.specs.declared.token.Tokens.{Tokens}
use Rattle.lines.proofs.Readings.{decimal_token}
use Rattle.lines.proofs.Sequences.{Form, Sequence, both, form, line_end, no_second}
use Rattle.lines.proofs.Spellings.{Spelling, field_form, token_spelling}
use Rattle.load_lines.specs.Names.{names_text}
use Rattle.load_lines.proofs.NamesForm.{names_form}
use Rattle.sheet_lines.specs.Heading.{Few, LegibleCounts, count_text, counts_line, kind_text, names_line}
use Rattle.sheet_lines.proofs.Narrowed.{narrowed_form}

pub names : Sequence 0 Anything names_text Ends (λ x. Anything) (λ x. before (byte 10)) Anything (λ x u. x) Anything names_line
names = record {
  first = names_form;
  follows = λ x u t ok any. refl;
  made = λ x u ok any. tt;
  joined = λ x u t ok any. refl;
  parts = λ x ok. (x, tt, refl, tt, tt);
}

pub names_line_lem : Form 1 Anything names_line Anything
names_line_lem = form names (λ x ok. line_end)

kind_text_lem : (k : Kind) → FieldText (kind_text k tt)
kind_text_lem Permanent = (omega arith, refl)
kind_text_lem LongTerm = (omega arith, refl)
kind_text_lem ShortTerm = (omega arith, refl)
kind_text_lem Special = (omega arith, refl)

pub kind_spelling : (k : Kind) → Spelling Anything Anything (kind_text k)
kind_spelling k = record { knows = λ u ok. tt; text = λ u ok. kind_text_lem k; valid_from = λ u ok text. tt; same = λ u v p q e. refl }

pub short_form : Form 0 Short (led true decimal) Ends
short_form = field_form (token_spelling decimal_token) true

pub few_short : (n : ℕ) → Few n → Short n
few_short n few = omega arith

count_joined : (b : Bool) (k : Kind) (u : Unit {0}) (n : ℕ) (t : List ℕ) → count_text b k n t ≡ led b (kind_text k) u (led true decimal n t)
count_joined true k u n t = refl
count_joined false k u n t = refl

pub count : (b : Bool) (k : Kind) → Sequence 0 Anything (led b (kind_text k)) Ends (λ u. Few) (λ u. led true decimal) Ends (λ u n. n) Few (count_text b k)
count b k = record {
  first = field_form (kind_spelling k) b;
  follows = λ u n t ok ends. refl;
  made = λ u n any few. few;
  joined = λ u n t any few. count_joined b k u n t;
  parts = λ n ok. (tt, n, refl, tt, ok);
}

count_form : (b : Bool) (k : Kind) → Form 0 Few (count_text b k) Ends
count_form b k = form (count b k) (λ u ok. narrowed_form short_form few_short)

-- what follows the first count, the second and the third
abbrev Two : ℕ × ℕ → Type 0
Two p = Few p.0 × Few p.1

abbrev Three : ℕ × ℕ × ℕ → Type 0
Three p = Few p.0 × Few p.1 × Few p.2

abbrev from_special : ℕ → List ℕ → List ℕ
from_special n t = count_text true Special n (10 ∷ t)

abbrev from_short : ℕ × ℕ → List ℕ → List ℕ
from_short p t = count_text true ShortTerm p.0 (from_special p.1 t)

abbrev from_long : ℕ × ℕ × ℕ → List ℕ → List ℕ
from_long p t = count_text true LongTerm p.0 (from_short (p.1, p.2) t)

pub special : Sequence 0 Few (count_text true Special) Ends (λ n. Anything) (λ n. before (byte 10)) Anything (λ n u. n) Few from_special
special = record {
  first = count_form true Special;
  follows = λ n u t ok any. refl;
  made = λ n u few any. few;
  joined = λ n u t few any. refl;
  parts = λ n ok. (n, tt, refl, ok, tt);
}

pub short_term_counts : Sequence 0 Few (count_text true ShortTerm) Ends (λ n. Few) (λ n. from_special) Anything (λ n s. (n, s)) Two from_short
short_term_counts = record {
  first = count_form true ShortTerm;
  follows = λ n s t ok any. refl;
  made = λ n s few more. (few, more);
  joined = λ n s t few more. refl;
  parts = λ p ok. (p.0, p.1, refl, ok.0, ok.1);
}

pub long_term_counts : Sequence 0 Few (count_text true LongTerm) Ends (λ n. Two) (λ n. from_short) Anything (λ n p. (n, p.0, p.1)) Three from_long
long_term_counts = record {
  first = count_form true LongTerm;
  follows = λ n p t ok any. refl;
  made = λ n p few more. (few, more.0, more.1);
  joined = λ n p t few more. refl;
  parts = λ p ok. (p.0, (p.1, p.2), refl, ok.0, (ok.1, ok.2));
}

pub counts : Sequence 0 Few (count_text false Permanent) Ends (λ n. Three) (λ n. from_long) Anything (λ n p. record { permanent = n; long_term = p.0; short_term = p.1; special = p.2 }) LegibleCounts counts_line
counts = record {
  first = count_form false Permanent;
  follows = λ n p t ok any. refl;
  made = λ n p few more. (few, more.0, more.1, more.2);
  joined = λ n p t few more. refl;
  parts = λ c ok. (c.permanent, (c.long_term, c.short_term, c.special), refl, ok.0, (ok.1, ok.2, ok.3));
}

pub counts_line_lem : Form 1 LegibleCounts counts_line Anything
counts_line_lem = form counts (λ n ok. form long_term_counts (λ l ok'. form short_term_counts (λ s ok''. form special (λ x ok'''. line_end))))

-- the letter was read, and then the count or none
pub after_letter : (b : Bool) (k : Kind) (s u z : Tokens) (r : Option ℕ) → Reads Anything (led b (kind_text k)) Ends s (Some tt) u → Reads Few (led true decimal) Ends u r z → Reads Few (count_text b k) Ends s r z
after_letter b k s u z (Some n) got next = both (count b k) s u z tt n got next
after_letter b k s u z None got none = no_second (count b k) s u z tt got none

-- a text that is the letter of a kind, or not
pub letter_told : (k : Kind) (text : List ℕ) (b : Bool) (r : Option (Unit {0})) → Decides b (text ≡ kind_text k tt) → r ≡ then_some b tt → Spelt Anything (kind_text k) text r
letter_told k text true r told e = rw e (tt, told.0 refl)
letter_told k text false r told e = rw e (λ u any same. clash (told.1 same))
