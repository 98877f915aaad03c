-- The forces that are given of entries.
use Rattle.std.specs.Prelude.{◌≡◌, ◌≤◌, ◌⊎◌, List, length, ℤ, negsuc, Some, None, Option}
use Rattle.effect.specs.Models.{forces}
use Rattle.effect.specs.declared.newtons.N.{N}
use Rattle.loads.specs.declared.records.Record.{Record}
use Rattle.norm.specs.Percentages.{Percentages}
use Rattle.combination.specs.declared.answers.Answer.{Answer}
use Rattle.combination.specs.declared.questions.Question.TheVariants.{Basic}
use Rattle.questions.specs.Promises.{AnswersSound}
use Rattle.bench_entry.specs.Entries.{WritesAll, Unwritten}
use Rattle.bench_entry.specs.declared.entries.Entry.{Entry}

-- an answer to the basic question: there always is one
abbrev pub AnswersBasic : Percentages → List (Record N) → Option (Answer N) → Type 0
AnswersBasic norm rs None = ⊥
AnswersBasic norm rs (Some a) = AnswersSound forces norm Basic rs a

-- an answer, as A says, to the records that the entries write, at most 32; None where they write none
abbrev pub Asked : (List (Record N) → Option (Answer N) → Type 0) → List Entry → Option (Answer N) → Type 0
Asked A es answer = ((rs : List (Record N)) × WritesAll es rs × (length es ≤ 32) × A rs answer) ⊎ (Unwritten es × (answer ≡ None))

-- the force of an answer; the least number of 64 bits, which is no worst effect, where there is none
abbrev pub force_of : Option (Answer N) → ℤ
force_of None = negsuc 9223372036854775807
force_of (Some a) = a.effect.force

-- the force of such an answer
abbrev pub Gives : (List (Record N) → Option (Answer N) → Type 0) → List Entry → ℤ → Type 0
Gives A es force = (answer : Option (Answer N)) × Asked A es answer × (force ≡ force_of answer)
