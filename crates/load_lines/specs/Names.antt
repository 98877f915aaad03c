-- The names of a norm and of an effect type.
use Rattle.std.specs.Prelude.{ℕ, List, ◌∷◌, ◌++◌}
use Rattle.effect.specs.Names.{effect_word}
use Rattle.norm.specs.Words.{norm_word}
use Rattle.load_lines.specs.declared.names.Names.{Names}

-- the two names, split by one blank, and then t
abbrev pub names_text : Names → List ℕ → List ℕ
names_text x t = norm_word x.norm ++ (32 ∷ (effect_word x.effect ++ t))
