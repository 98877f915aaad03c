-- The words by which a text names the effect types.
use Rattle.std.specs.Prelude.{◌≡◌, ℕ, ◌<◌, List, length, codes, refl}
use Rattle.std.specs.List.{AllByRecursion}
use Rattle.std.proofs.Common.{ap, arith}
use Rattle.words.specs.Words.{Words}
use Rattle.effect.specs.declared.names.EffectName.{EffectName}
use Rattle.effect.specs.declared.names.EffectName.TheVariants.{N, Nm}

abbrev pub effect_word : EffectName → List ℕ
effect_word N = codes "N"
effect_word Nm = codes "NM"

some : (n : EffectName) → 0 < length (effect_word n)
some N = omega arith
some Nm = omega arith

plain : (n : EffectName) → AllByRecursion (λ b. 32 < b) (effect_word n)
plain N = (omega arith, tt)
plain Nm = (omega arith, (omega arith, tt))

distinct : (m n : EffectName) → effect_word m ≡ effect_word n → m ≡ n
distinct N N e = refl
distinct N Nm e = absurd (omega (arith, ap length e))
distinct Nm N e = absurd (omega (arith, ap length e))
distinct Nm Nm e = refl

pub effect_words : Words effect_word
effect_words = record { some = some; plain = plain; distinct = distinct }
