-- A text that is written part by part.
-- Assumes nothing.
use Rattle.std.proofs.Common.{◌≡◌, ℕ, List, [], ◌++◌, sym}
use Rattle.writing.specs.Writing.{Writes}
use Rattle.writing.specs.declared.writer.Writer.{Writer}
use Rattle.writing.proofs.Overlays.{nothing, then, so}

-- from s to u so much was written that with what is left the whole is
abbrev pub Onward : Writer → Writer → List ℕ → List ℕ → Type 0
Onward s u left whole = (z : Writer) → Writes u left z → Writes s whole z

pub onward_more : {s u v : Writer} {left whole part left' : List ℕ} → Onward s u left whole → left ≡ part ++ left' → Writes u part v → Onward s v left' whole
onward_more h e p = λ z w. h z (so (sym e) (then p w))

pub onward_all : {s u : Writer} {left whole : List ℕ} → Onward s u left whole → left ≡ [] → Writes s whole u
onward_all {u = u} h e = h u (so (sym e) (nothing u))
