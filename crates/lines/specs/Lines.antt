-- Lines and fields of a text: a field ends before a blank (32), a line end (10) or the end of the text.
use Rattle.std.specs.Prelude.{ℕ, ◌+◌, Bool, false, cond, ◌||◌, List, [], ◌∷◌, ◌==◌}

-- how many line ends there are
abbrev pub newlines : List ℕ → ℕ
newlines [] = 0
newlines (b ∷ bs) = cond (b == 10) 1 0 + newlines bs

abbrev pub separates : ℕ → Bool
separates b = b == 32 || b == 10

-- the longest front without a separator
abbrev pub field : List ℕ → List ℕ
field [] = []
field (b ∷ bs) = cond (separates b) [] (b ∷ field bs)

abbrev pub begins_blank : List ℕ → Bool
begins_blank [] = false
begins_blank (b ∷ bs) = b == 32

-- the one blank at the start, where there is one
abbrev pub gap : List ℕ → List ℕ
gap s = cond (begins_blank s) (32 ∷ []) []

-- the text of the first token: a line end, or the field that starts here or after the one blank here
abbrev pub lexeme : List ℕ → List ℕ
lexeme [] = []
lexeme (b ∷ bs) = cond (b == 10) (10 ∷ []) (cond (b == 32) (field bs) (field (b ∷ bs)))
