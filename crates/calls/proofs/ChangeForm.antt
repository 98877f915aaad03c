-- The line of a change as a name and then its arguments.
-- Assumes nothing.
use Rattle.std.proofs.Common.{◌≡◌, ℕ, ◌<◌, false, List, ◌∷◌, ◌++◌, length, Some, None, decimal, Option, refl, ap, arith, length-append}
use Rattle.effect.specs.Notations.{Notation, NotationLaws}
use Rattle.sheet.specs.declared.changes.Entry.{Entry}
use Rattle.sheet.specs.declared.changes.Change.{Change}
use Rattle.sheet.specs.declared.changes.Change.TheVariants.{Enter, Alter, Strike}
use Rattle.lines.specs.Numeral.{Short}
use Rattle.lines.specs.Reading.{Anything, Ends, Reads, last_field, led}
use Rattle.lines.specs.declared.token.Tokens.{Tokens}
use Rattle.lines.proofs.Lasts.{last_field_form}
use Rattle.load_lines.specs.Loads.{load_end}
use Rattle.load_lines.proofs.LoadForm.{load_longer}
use Rattle.load_lines.proofs.WordFields.{word_spelling}
use Rattle.lines.proofs.Sequences.{Form, Sequence, Wrapping, both, form, no_second, wrapped_form}
use Rattle.lines.proofs.Spellings.{field_form}
use Rattle.calls.specs.Changes.{Legible, OfName, arguments_end, change_line, name_of}
use Rattle.calls.specs.Entries.{LegibleEntry, entry_end}
use Rattle.calls.specs.Names.{change_word, change_words}
use Rattle.calls.specs.declared.names.ChangeName.{ChangeName}
use Rattle.calls.specs.declared.names.ChangeName.TheVariants.{Enter as NameEnter, Alter as NameAlter, Strike as NameStrike}
use Rattle.calls.proofs.EntryForm.{entry_form}

module _ {E : Type 0} (w : Notation E) where
  enter_part : (c : Change E) → OfName w NameEnter c → (x : Entry E) × (c ≡ Enter x) × LegibleEntry w x
  enter_part (Enter x) ok = (x, refl, ok.1)
  enter_part (Alter x) ok = absurd (let q = ok.0 in let z : ◌≡◌ {A = ℕ} 0 1 = cc in omega arith)
  enter_part (Strike n) ok = absurd (let q = ok.0 in let z : ◌≡◌ {A = ℕ} 0 1 = cc in omega arith)

  pub enter : Wrapping (LegibleEntry w) (entry_end w) Enter (OfName w NameEnter) (arguments_end w)
  enter = record { made = λ p ok. (refl, ok); same = λ p t ok. refl; part = enter_part }

  alter_part : (c : Change E) → OfName w NameAlter c → (x : Entry E) × (c ≡ Alter x) × LegibleEntry w x
  alter_part (Enter x) ok = absurd (let q = ok.0 in let z : ◌≡◌ {A = ℕ} 0 1 = cc in omega arith)
  alter_part (Alter x) ok = (x, refl, ok.1)
  alter_part (Strike n) ok = absurd (let q = ok.0 in let z : ◌≡◌ {A = ℕ} 0 1 = cc in omega arith)

  pub alter : Wrapping (LegibleEntry w) (entry_end w) Alter (OfName w NameAlter) (arguments_end w)
  alter = record { made = λ p ok. (refl, ok); same = λ p t ok. refl; part = alter_part }

  strike_part : (c : Change E) → OfName w NameStrike c → (n : ℕ) × (c ≡ Strike n) × Short n
  strike_part (Enter x) ok = absurd (let q = ok.0 in let z : ◌≡◌ {A = ℕ} 0 1 = cc in omega arith)
  strike_part (Alter x) ok = absurd (let q = ok.0 in let z : ◌≡◌ {A = ℕ} 0 1 = cc in omega arith)
  strike_part (Strike n) ok = (n, refl, ok.1)

  pub strike : Wrapping Short last_field Strike (OfName w NameStrike) (arguments_end w)
  strike = record { made = λ n ok. (refl, ok); same = λ n t ok. refl; part = strike_part }

  -- a blank stands before the arguments
  pub ends_name : (c : Change E) (t : List ℕ) → Ends (arguments_end w c t)
  ends_name (Enter x) t = refl
  ends_name (Alter x) t = refl
  ends_name (Strike n) t = refl

  pub change : Sequence 0 Anything (led false change_word) Ends (OfName w) (λ name. arguments_end w) Anything (λ name c. c) (Legible w) (change_line w)
  change = record {
    first = field_form (word_spelling change_word change_words) false;
    follows = λ name c t ok any. ends_name c t;
    made = λ name c ok arguments. arguments.1;
    joined = λ name c t ok arguments. ap (λ m. change_word m ++ arguments_end w c t) arguments.0;
    parts = λ c ok. (name_of c, c, refl, tt, (refl, ok));
  }

  pub after_name : (s u z : Tokens) (name : ChangeName) (r : Option (Change E)) → Reads Anything (led false change_word) Ends s (Some name) u → Reads (OfName w name) (arguments_end w) Anything u r z → Reads (Legible w) (change_line w) Anything s r z
  after_name s u z name (Some c) got next = both change s u z name c got next
  after_name s u z name None got none = no_second change s u z name got none

  entry_longer : (x : Entry E) (t : List ℕ) → length t < length (entry_end w x t)
  entry_longer x t = omega (arith, length-append (decimal x.number) (32 ∷ (x.letter ∷ load_end w x.load t)), load_longer w x.load t)

  pub arguments_longer : (c : Change E) (t : List ℕ) → length t < length (arguments_end w c t)
  arguments_longer (Enter x) t = entry_longer x t
  arguments_longer (Alter x) t = entry_longer x t
  arguments_longer (Strike n) t = simp length-append (omega arith)

  -- a line that is read leaves less of the text
  pub change_longer : (c : Change E) (t : List ℕ) → length t < length (change_line w c t)
  change_longer c t = omega (arith, arguments_longer c t, length-append (change_word (name_of c)) (arguments_end w c t))

  module _ (laws : NotationLaws w) where
    pub arguments_form : (name : ChangeName) → Form 1 (OfName w name) (arguments_end w) Anything
    arguments_form NameEnter = wrapped_form enter (entry_form w laws)
    arguments_form NameAlter = wrapped_form alter (entry_form w laws)
    arguments_form NameStrike = wrapped_form strike last_field_form

    pub change_form : Form 1 (Legible w) (change_line w) Anything
    change_form = form change (λ name ok. arguments_form name)
