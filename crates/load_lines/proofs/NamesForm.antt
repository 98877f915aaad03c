-- The names of a norm and of an effect type in a line.
-- Assumes nothing.
use Rattle.std.proofs.Common.{true, false, refl}
use Rattle.effect.specs.Names.{effect_word, effect_words}
use Rattle.norm.specs.Words.{norm_word, norm_words}
use Rattle.lines.specs.Reading.{Anything, Ends, led}
use Rattle.lines.proofs.Sequences.{Form, Sequence, form}
use Rattle.lines.proofs.Spellings.{field_form}
use Rattle.load_lines.specs.Names.{names_text}
use Rattle.load_lines.proofs.WordFields.{word_spelling}

pub names : Sequence 0 Anything (led false norm_word) Ends (λ n. Anything) (λ n. led true effect_word) Ends (λ n e. record { norm = n; effect = e }) Anything names_text
names = record {
  first = field_form (word_spelling norm_word norm_words) false;
  follows = λ n e t ok ends. refl;
  made = λ n e p q. tt;
  joined = λ n e t p q. refl;
  parts = λ x ok. (x.norm, x.effect, refl, tt, tt);
}

pub names_form : Form 0 Anything names_text Ends
names_form = form names (λ n ok. field_form (word_spelling effect_word effect_words) true)
