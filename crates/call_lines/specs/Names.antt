-- The words by which a line names its call: those of the changes and those of the questions.
use Rattle.std.specs.Prelude.{◌≡◌, ℕ, ◌<◌, List, length, slice_index_or}
use Rattle.std.specs.List.{AllByRecursion}
use Rattle.std.proofs.Common.{sym, ap, arith}
use Rattle.words.specs.Words.{Words}
use Rattle.calls.specs.Names.{change_word, change_words}
use Rattle.calls.specs.declared.names.ChangeName.{ChangeName}
use Rattle.calls.specs.declared.names.ChangeName.TheVariants.{Enter, Alter, Strike}
use Rattle.combination.specs.Words.{question_word, question_words}
use Rattle.combination.specs.declared.questions.Question.{Question}
use Rattle.combination.specs.declared.questions.Question.TheVariants.{Basic, WithSpecial}
use Rattle.call_lines.specs.declared.names.CallName.{CallName}
use Rattle.call_lines.specs.declared.names.CallName.TheVariants.{Change, Ask}

abbrev pub call_word : CallName → List ℕ
call_word (Change n) = change_word n
call_word (Ask q) = question_word q

some : (n : CallName) → 0 < length (call_word n)
some (Change n) = change_words.some n
some (Ask q) = question_words.some q

plain : (n : CallName) → AllByRecursion (λ b. 32 < b) (call_word n)
plain (Change n) = change_words.plain n
plain (Ask q) = question_words.plain q

second : {x y : List ℕ} → x ≡ y → slice_index_or x 1 0 ≡ slice_index_or y 1 0
second e = ap (λ l. slice_index_or l 1 0) e

-- no change has the word of a question
pub never_both : (n : ChangeName) (q : Question) → change_word n ≡ question_word q → ⊥
never_both Enter Basic e = omega (arith, second e)
never_both Enter WithSpecial e = omega (arith, second e)
never_both Alter Basic e = omega (arith, second e)
never_both Alter WithSpecial e = omega (arith, second e)
never_both Strike Basic e = omega (arith, second e)
never_both Strike WithSpecial e = omega (arith, second e)

distinct : (m n : CallName) → call_word m ≡ call_word n → m ≡ n
distinct (Change m) (Change n) e = ap Change (change_words.distinct m n e)
distinct (Change m) (Ask q) e = absurd (never_both m q e)
distinct (Ask p) (Change n) e = absurd (never_both n p (sym e))
distinct (Ask p) (Ask q) e = ap Ask (question_words.distinct p q e)

pub call_words : Words call_word
call_words = record { some = some; plain = plain; distinct = distinct }
