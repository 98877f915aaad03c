-- A line that is read leaves less of the text.
-- Assumes nothing.
use Rattle.std.proofs.Common.{ℕ, ◌<◌, ◌≤◌, List, [], ◌∷◌, length, decimal, arith, length-append}
use Rattle.lines.specs.Reading.{spaced, fields_of, numbers_line}

module _ {A : Type 0} (written : A → List ℕ) where
  pub spaced_longer : (xs : List A) (t : List ℕ) → length t ≤ length (spaced written xs t)
  spaced_longer [] t = omega arith
  spaced_longer (x ∷ xs) t = simp length-append (omega (arith, spaced_longer xs t))

  fields_longer : (xs : List A) (t : List ℕ) → length t ≤ length (fields_of written xs t)
  fields_longer [] t = omega arith
  fields_longer (x ∷ xs) t = simp length-append (omega (arith, spaced_longer xs t))

pub line_longer : (ns t : List ℕ) → length t < length (numbers_line ns t)
line_longer ns t = omega (arith, fields_longer decimal ns (10 ∷ t))
