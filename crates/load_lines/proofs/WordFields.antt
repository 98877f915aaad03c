-- The words of an enum are fields, and no two are alike.
-- Assumes nothing.
use Rattle.std.proofs.Common.{◌≡◌, ℕ, ◌<◌, false, List, [], ◌∷◌, Some, None, Option, refl, arith}
use Rattle.std.specs.List.{AllByRecursion}
use Rattle.words.specs.Words.{Named, Words}
use Rattle.lines.specs.Lines.{separates}
use Rattle.lines.specs.Numeral.{Spelt}
use Rattle.lines.specs.Reading.{Anything}
use Rattle.lines.proofs.Fields.{Solid, whole_field}
use Rattle.lines.proofs.Spellings.{Spelling}

apart : (b : ℕ) → 32 < b → separates b ≡ false
apart b h = grind arith

solid : (xs : List ℕ) → AllByRecursion (λ b. 32 < b) xs → Solid xs
solid [] h = tt
solid (b ∷ xs) h = (apart b h.0, solid xs h.1)

module _ {A : Type 0} (word : A → List ℕ) where
  pub word_spelling : Words word → Spelling Anything Anything word
  word_spelling laws = record {
    knows = λ a ok. tt;
    text = λ a ok. (laws.some a, whole_field (word a) (solid (word a) (laws.plain a)));
    valid_from = λ a ok text. tt;
    same = λ a b p q. laws.distinct a b;
  }

  pub word_spelt : (text : List ℕ) (r : Option A) → Named word text r → Spelt Anything word text r
  word_spelt text (Some a) h = (tt, (h a).0 refl)
  word_spelt text None h = λ a any e. let q = (h a).1 e in let z : ◌≡◌ {A = ℕ} 0 1 = cc in omega arith
