-- The line of a call as a name and then its arguments.
-- Assumes nothing.
use Rattle.std.proofs.Common.{◌≡◌, ℕ, ◌<◌, false, List, ◌++◌, length, Some, None, Option, refl, ap, arith, length-append}
use Rattle.effect.specs.Notations.{Notation, NotationLaws}
use Rattle.sheet.specs.declared.changes.Change.{Change}
use Rattle.combination.specs.declared.questions.Question.{Question}
use Rattle.history.specs.declared.calls.Call.{Call}
use Rattle.history.specs.declared.calls.Call.TheVariants.{Change as Changing, Ask}
use Rattle.lines.specs.Reading.{Anything, Ends, Reads, before, byte, led}
use Rattle.lines.specs.declared.token.Tokens.{Tokens}
use Rattle.lines.proofs.Sequences.{Form, Sequence, Wrapping, both, form, line_end, no_second, wrapped_form}
use Rattle.lines.proofs.Spellings.{field_form}
use Rattle.load_lines.proofs.WordFields.{word_spelling}
use Rattle.calls.specs.Changes.{OfName as OfChangeName, arguments_end as change_end}
use Rattle.calls.specs.declared.names.ChangeName.{ChangeName}
use Rattle.calls.proofs.ChangeForm.{ends_name as ends_arguments, arguments_longer as arguments_longer_of_change, arguments_form as arguments_form_of_change}
use Rattle.call_lines.specs.Calls.{Legible, OfName, arguments_end, call_line, name_of}
use Rattle.call_lines.specs.Names.{call_word, call_words}
use Rattle.call_lines.specs.declared.names.CallName.{CallName}
use Rattle.call_lines.specs.declared.names.CallName.TheVariants.{Change as NameChange, Ask as NameAsk}

module _ {E : Type 0} (w : Notation E) where
  changing_part : (name : ChangeName) (c : Call E) → OfName w (NameChange name) c → (d : Change E) × (c ≡ Changing d) × OfChangeName w name d
  changing_part name (Changing d) ok = let q = ok.0 in (d, refl, (cc, ok.1))
  changing_part name (Ask q) ok = absurd (let q = ok.0 in let z : ◌≡◌ {A = ℕ} 0 1 = cc in omega arith)

  pub changing : (name : ChangeName) → Wrapping (OfChangeName w name) (change_end w) Changing (OfName w (NameChange name)) (arguments_end w)
  changing name = record { made = λ d ok. (ap NameChange ok.0, ok.1); same = λ d t ok. refl; part = changing_part name }

  asking_part : (q : Question) (c : Call E) → OfName w (NameAsk q) c → (u : Unit {0}) × (c ≡ Ask q) × Unit {0}
  asking_part q (Changing d) ok = absurd (let e = ok.0 in let z : ◌≡◌ {A = ℕ} 0 1 = cc in omega arith)
  asking_part q (Ask r) ok = let e = ok.0 in (tt, (cc), tt)

  pub asking : (q : Question) → Wrapping Anything (before (byte 10)) (λ u. Ask q) (OfName w (NameAsk q)) (arguments_end w)
  asking q = record { made = λ u ok. (refl, tt); same = λ u t ok. refl; part = asking_part q }

  -- a blank or the line end stands after the name
  ends_name : (c : Call E) (t : List ℕ) → Ends (arguments_end w c t)
  ends_name (Changing c) t = ends_arguments w c t
  ends_name (Ask q) t = refl

  pub call : Sequence 0 Anything (led false call_word) Ends (OfName w) (λ name. arguments_end w) Anything (λ name c. c) (Legible w) (call_line w)
  call = record {
    first = field_form (word_spelling call_word call_words) false;
    follows = λ name c t ok any. ends_name c t;
    made = λ name c ok arguments. arguments.1;
    joined = λ name c t ok arguments. ap (λ m. call_word m ++ arguments_end w c t) arguments.0;
    parts = λ c ok. (name_of c, c, refl, tt, (refl, ok));
  }

  pub after_name : (s u z : Tokens) (name : CallName) (r : Option (Call E)) → Reads Anything (led false call_word) Ends s (Some name) u → Reads (OfName w name) (arguments_end w) Anything u r z → Reads (Legible w) (call_line w) Anything s r z
  after_name s u z name (Some c) got next = both call s u z name c got next
  after_name s u z name None got none = no_second call s u z name got none

  arguments_longer : (c : Call E) (t : List ℕ) → length t < length (arguments_end w c t)
  arguments_longer (Changing c) t = arguments_longer_of_change w c t
  arguments_longer (Ask q) t = omega arith

  -- a line that is read leaves less of the text
  pub call_longer : (c : Call E) (t : List ℕ) → length t < length (call_line w c t)
  call_longer c t = omega (arith, arguments_longer c t, length-append (call_word (name_of c)) (arguments_end w c t))

  module _ (laws : NotationLaws w) where
    arguments_form : (name : CallName) → Form 1 (OfName w name) (arguments_end w) Anything
    arguments_form (NameChange name) = wrapped_form (changing name) (arguments_form_of_change w laws name)
    arguments_form (NameAsk q) = wrapped_form (asking q) line_end

    pub call_form : Form 1 (Legible w) (call_line w) Anything
    call_form = form call (λ name ok. arguments_form name)
