use Rattle.writing.proofs.Overlays.{then}
use Rattle.sheet_writing.proofs.headings.write_counts.Goals as goal

pub returns : goal.returns
returns c =
    then c.write_count.ensures (then c.put.ensures (then c.write_count-2.ensures (then c.put-2.ensures (then c.write_count-3.ensures (then c.put-3.ensures (then c.write_count-4.ensures c.put-4.ensures))))))
