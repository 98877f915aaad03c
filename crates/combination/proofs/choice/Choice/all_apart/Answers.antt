use Rattle.std.proofs.Common.{◌<◌, length, refl, rules}
use Rattle.combination.specs.Choices.{Apart}
use Rattle.combination.proofs.Places.{each_two_of_none}
use Rattle.combination.proofs.choice.Choice.all_apart.Goals as goal

pub returns-in_default-2 : goal.returns-in_default-2
returns-in_default-2 g c =
    let few : length c.loop-rest.rest.1.now < 1 = search rules in
    (λ _. c.loop-rest.invariant.1 (each_two_of_none Apart c.loop-rest.rest.0.now c.loop-rest.rest.1.now few), λ _. refl)
