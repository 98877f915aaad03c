use Rattle.std.proofs.Common.{[], ap}
use Rattle.sheet_lines.specs.Heading.{counts_line}
use Rattle.writing.proofs.Overlays.{then, so}
use Rattle.sheet_writing.proofs.WholeText.{whole_text}
use Rattle.sheet_writing.proofs.sheets.SheetFormText.write_to.Goals as goal

pub returns : goal.returns
returns g c =
    let x = c.args.self.now in
    let counts = so (ap (λ n. counts_line n []) c.counts_of.ensures) c.write_counts.ensures in
    so (whole_text g.E.Written.writes x.records.now x.names)
    (then c.write_names.ensures (then counts (then c.write_kind.ensures (then c.write_kind-2.ensures (then c.write_kind-3.ensures c.write_kind-4.ensures)))))
