use Rattle.std.proofs.Common.{[], decimal}
use Rattle.std.proofs.lemmas.List.{at_drop_more, at_drop_all}
use Rattle.lines.specs.Reading.{spaced}
use Rattle.writing.proofs.Onward.{onward_more, onward_all}
use Rattle.writing.proofs.writer.Writer.fields.Goals as goal

pub loop-n-preserved : goal.loop-n-preserved
loop-n-preserved c =
    onward_more c.loop-n.invariant (at_drop_more (λ l. spaced decimal l []) c.args.numbers.now c.loop-n.n-index 0 c.loop-n-test.true) c.field.ensures

pub returns : goal.returns
returns c = onward_all c.loop-n.invariant (at_drop_all (λ l. spaced decimal l []) c.args.numbers.now c.loop-n.n-index c.loop-n-test.false)
