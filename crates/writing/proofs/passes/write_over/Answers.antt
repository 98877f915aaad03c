use Rattle.std.proofs.Common.{sym, refl, rules}
use Rattle.writing.proofs.TwoPasses.{overlaid}
use Rattle.writing.proofs.passes.write_over.Goals as goal

pub returns : goal.returns
returns g c =
    let lent = sym c.write_to.ensures.lent in
    overlaid c.write_to.ensures refl refl (search rules)
