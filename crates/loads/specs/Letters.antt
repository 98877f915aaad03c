-- The letters of the kinds.
use Rattle.std.specs.Prelude.{◌≡◌, ℕ, Ok, Err, Result, ◌≢◌}
use Rattle.refusals.specs.declared.Refusal.{Refusal}
use Rattle.refusals.specs.declared.Refusal.TheVariants.{KindLetter}
use Rattle.loads.specs.declared.kinds.Kind.{Kind}
use Rattle.loads.specs.declared.kinds.Kind.TheVariants.{Permanent, LongTerm, ShortTerm, Special}

-- P, L, T and S
abbrev pub letter_of : Kind → ℕ
letter_of Permanent = 80
letter_of LongTerm = 76
letter_of ShortTerm = 84
letter_of Special = 83

-- the kind that a letter stands for, or that it stands for none
abbrev pub KindOf : ℕ → Result Kind Refusal → Type 0
KindOf letter (Ok k) = letter_of k ≡ letter
KindOf letter (Err e) = (e ≡ KindLetter) × ((k : Kind) → letter_of k ≢ letter)
