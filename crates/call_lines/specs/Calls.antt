-- The line of a call on a sheet.
use Rattle.std.specs.Prelude.{◌≡◌, ℕ, List, ◌∷◌, ◌++◌}
use Rattle.effect.specs.Notations.{Notation}
use Rattle.history.specs.declared.calls.Call.{Call}
use Rattle.history.specs.declared.calls.Call.TheVariants.{Change as Changing, Ask}
use Rattle.calls.specs.Changes.{name_of as change_name, Legible as LegibleChange, arguments_end as change_end}
use Rattle.call_lines.specs.Names.{call_word}
use Rattle.call_lines.specs.declared.names.CallName.{CallName}
use Rattle.call_lines.specs.declared.names.CallName.TheVariants.{Change as NameChange, Ask as NameAsk}

abbrev pub name_of : {E : Type 0} → Call E → CallName
name_of (Changing c) = NameChange (change_name c)
name_of (Ask q) = NameAsk q

module _ {E : Type 0} (w : Notation E) where
  -- a call that a line can hold
  abbrev pub Legible : Call E → Type 0
  Legible (Changing c) = LegibleChange w c
  Legible (Ask q) = Unit {0}

  abbrev pub OfName : CallName → Call E → Type 0
  OfName name c = (name_of c ≡ name) × Legible c

  -- the arguments, each after one blank, then the line end, and then t; a question has none
  abbrev pub arguments_end : Call E → List ℕ → List ℕ
  arguments_end (Changing c) t = change_end w c t
  arguments_end (Ask q) t = 10 ∷ t

  -- the call's name and its arguments, then the line end, and then t
  abbrev pub call_line : Call E → List ℕ → List ℕ
  call_line c t = call_word (name_of c) ++ arguments_end c t
