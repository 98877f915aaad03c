use Rattle.std.proofs.Common.{[], ◌∷◌, ◌++◌, decimal, sym, ap, ◌∙◌, append_assoc}
use Rattle.loads.specs.Letters.{letter_of}
use Rattle.load_lines.specs.Loads.{load_text}
use Rattle.writing.proofs.Overlays.{then, so}
use Rattle.calls.proofs.record_line.RecordLineText.write_to.Goals as goal

pub returns : goal.returns
returns g c =
    let r = c.args.self.now.0 in
    so (ap (λ l. decimal r.number ++ (32 ∷ (l ∷ (load_text g.E.Written.writes r.load [] ++ 10 ∷ [])))) c.letter.ensures ∙ sym (append_assoc (decimal r.number) (32 ∷ (letter_of r.kind ∷ load_text g.E.Written.writes r.load [])) (10 ∷ [])))
    (then c.number.ensures (then c.put.ensures (then c.put-2.ensures (then c.write_load.ensures c.put-3.ensures))))
