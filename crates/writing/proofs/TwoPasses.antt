-- What a pass over a buffer leaves.
use Rattle.std.proofs.Common.{◌≡◌, ℕ, List, [], ◌++◌, length, sym, ap, ◌∙◌, arith}
use Rattle.writing.specs.declared.writer.Writer.{Writer}
use Rattle.writing.specs.Writing.{Holds, Overlaid, Writes}
use Rattle.writing.proofs.Overlays.{take_nil}

pub overlaid : {o text x : List ℕ} {s t : Writer} → Writes s text t → s.out.now ≡ o → s.at ≡ 0 → x ≡ t.out.now → Overlaid text o t.at x
overlaid {o} {text} {x} {s} {t} w bytes start last =
    let fresh : Holds o [] s = record { bytes = bytes ∙ ap (λ l. l ++ o) (sym (take_nil (length o))); place = omega arith } in
    let after = w.more o [] fresh in
    record { count = after.place; bytes = last ∙ after.bytes }
