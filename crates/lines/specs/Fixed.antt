-- How a number with decimals is shown.
use Rattle.std.specs.Prelude.{ℕ, zero, suc, ◌+◌, ◌/◌, ◌%◌, ◌^◌, List, [], ◌∷◌, ◌++◌, decimal}

-- the last k digits of n, leading zeros too
abbrev pub padded : ℕ → ℕ → List ℕ
padded zero n = []
padded (suc k) n = (48 + n / 10 ^ k % 10) ∷ padded k n

-- n hundred-millionths, with eight decimals
abbrev pub fixed8 : ℕ → List ℕ
fixed8 n = decimal (n / 10 ^ 8) ++ (46 ∷ padded 8 n)
