use Rattle.std.proofs.Common.{sym}
use Rattle.std.proofs.lemmas.List.{take_more}
use Rattle.writing.proofs.Overlays.{then, so}
use Rattle.writing.proofs.writer.Writer.word.Goals as goal

pub loop-b-preserved : goal.loop-b-preserved
loop-b-preserved c = so (sym (take_more c.args.text.now c.loop-b.b-index 0 c.loop-b-test.true)) (then c.loop-b.invariant c.put.ensures)
