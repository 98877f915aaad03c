-- The words by which a line names a change.
use Rattle.std.specs.Prelude.{◌≡◌, ℕ, ◌<◌, cond, List, length, codes, ◌==◌, slice_index_or, refl}
use Rattle.std.specs.List.{AllByRecursion}
use Rattle.std.proofs.Common.{sym, ap, ◌∙◌, arith}
use Rattle.words.specs.Words.{Words}
use Rattle.calls.specs.declared.names.ChangeName.{ChangeName}
use Rattle.calls.specs.declared.names.ChangeName.TheVariants.{Enter, Alter, Strike}

abbrev pub change_word : ChangeName → List ℕ
change_word Enter = codes "ENTER"
change_word Alter = codes "ALTER"
change_word Strike = codes "STRIKE"

some : (n : ChangeName) → 0 < length (change_word n)
some Enter = omega arith
some Alter = omega arith
some Strike = omega arith

plain : (n : ChangeName) → AllByRecursion (λ b. 32 < b) (change_word n)
plain Enter = (omega arith, (omega arith, (omega arith, (omega arith, (omega arith, tt)))))
plain Alter = (omega arith, (omega arith, (omega arith, (omega arith, (omega arith, tt)))))
plain Strike = (omega arith, (omega arith, (omega arith, (omega arith, (omega arith, (omega arith, tt))))))

-- the second letter tells the words apart
by_letter : ℕ → ChangeName
by_letter b = cond (b == 78) Enter (cond (b == 76) Alter Strike)

told : (n : ChangeName) → by_letter (slice_index_or (change_word n) 1 0) ≡ n
unfolding by_letter
told Enter = refl
told Alter = refl
told Strike = refl

distinct : (m n : ChangeName) → change_word m ≡ change_word n → m ≡ n
distinct m n e = sym (told m) ∙ ap (λ l. by_letter (slice_index_or l 1 0)) e ∙ told n

pub change_words : Words change_word
change_words = record { some = some; plain = plain; distinct = distinct }
