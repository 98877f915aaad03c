-- The words by which a text names the questions.
use Rattle.std.specs.Prelude.{◌≡◌, ℕ, ◌<◌, List, length, codes, refl}
use Rattle.std.specs.List.{AllByRecursion}
use Rattle.std.proofs.Common.{ap, arith}
use Rattle.words.specs.Words.{Words}
use Rattle.combination.specs.declared.questions.Question.{Question}
use Rattle.combination.specs.declared.questions.Question.TheVariants.{Basic, WithSpecial}

abbrev pub question_word : Question → List ℕ
question_word Basic = codes "BASIC"
question_word WithSpecial = codes "SPECIAL"

some : (n : Question) → 0 < length (question_word n)
some Basic = omega arith
some WithSpecial = omega arith

plain : (n : Question) → AllByRecursion (λ b. 32 < b) (question_word n)
plain Basic = (omega arith, (omega arith, (omega arith, (omega arith, (omega arith, tt)))))
plain WithSpecial = (omega arith, (omega arith, (omega arith, (omega arith, (omega arith, (omega arith, (omega arith, tt)))))))

distinct : (m n : Question) → question_word m ≡ question_word n → m ≡ n
distinct Basic Basic e = refl
distinct Basic WithSpecial e = absurd (omega (arith, ap length e))
distinct WithSpecial Basic e = absurd (omega (arith, ap length e))
distinct WithSpecial WithSpecial e = refl

pub question_words : Words question_word
question_words = record { some = some; plain = plain; distinct = distinct }
