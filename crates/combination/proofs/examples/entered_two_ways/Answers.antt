use Rattle.std.proofs.Common.{sym, subst₂}
use Rattle.combination.specs.Examples.{SameLoads}
use Rattle.combination.proofs.Witnesses.{same_loads}
use Rattle.combination.proofs.examples.entered_two_ways.Goals as goal

pub returns : goal.returns
returns c = subst₂ SameLoads (sym c.first_way.ensures) (sym c.second_way.ensures) same_loads
