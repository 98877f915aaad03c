use Rattle.std.proofs.Common.{◌↔◌, length}
use Rattle.combination.specs.Choices.{lines, lines_of, Apart}
use Rattle.combination.specs.Lists.{EachTwo}
use Rattle.combination.proofs.choice.Choice.all_apart.Given as goal

abbrev pub invariant-loop-rest : goal.invariant-loop-rest
invariant-loop-rest g l = EachTwo Apart (lines_of l.self) ↔ EachTwo Apart (lines l.rest.0.now l.rest.1.now)

abbrev pub decreases-loop-rest : goal.decreases-loop-rest
decreases-loop-rest g l = length l.rest.0.now
