use Rattle.std.proofs.Common.{[], ◌++◌, decimal, ap}
use Rattle.writing.proofs.Overlays.{then, so}
use Rattle.sheet_writing.proofs.KindLines.{load_text_lem}
use Rattle.sheet_writing.proofs.bodies.write_body.Goals as goal

pub returns : goal.returns
returns g c =
    let r = c.args.of.now in
    so (ap (λ l. decimal r.number ++ l) (load_text_lem g.E.Written.writes r.load [])) (then c.number.ensures (then c.write_load.ensures c.put.ensures))
