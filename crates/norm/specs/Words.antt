-- The words by which a text names the norms, as bytes.
use Rattle.std.specs.Prelude.{◌≡◌, ℕ, ◌<◌, List, length, codes, refl}
use Rattle.std.specs.List.{AllByRecursion}
use Rattle.std.proofs.Common.{ap, arith}
use Rattle.words.specs.Words.{Words}
use Rattle.norm.specs.declared.names.NormName.{NormName}
use Rattle.norm.specs.declared.names.NormName.TheVariants.{Sp20, Snip85}

abbrev pub norm_word : NormName → List ℕ
norm_word Sp20 = codes "SP20"
norm_word Snip85 = codes "SNIP85"

some : (n : NormName) → 0 < length (norm_word n)
some Sp20 = omega arith
some Snip85 = omega arith

plain : (n : NormName) → AllByRecursion (λ b. 32 < b) (norm_word n)
plain Sp20 = (omega arith, (omega arith, (omega arith, (omega arith, tt))))
plain Snip85 = (omega arith, (omega arith, (omega arith, (omega arith, (omega arith, (omega arith, tt))))))

distinct : (m n : NormName) → norm_word m ≡ norm_word n → m ≡ n
distinct Sp20 Sp20 e = refl
distinct Sp20 Snip85 e = absurd (omega (arith, ap length e))
distinct Snip85 Sp20 e = absurd (omega (arith, ap length e))
distinct Snip85 Snip85 e = refl

pub norm_words : Words norm_word
norm_words = record { some = some; plain = plain; distinct = distinct }
