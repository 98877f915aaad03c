use Rattle.sheet.specs.Held.{held, places_of}
use Rattle.history.specs.History.{both}
use Rattle.history.proofs.Asked.{special_asked}
use Rattle.history.proofs.worst.worst_special.Goals as goal

pub returns : goal.returns
returns g c =
    let n = c.args.norm.now in
    special_asked g.E.Effect.means g.met.E.Effect.lawful (places_of c.args.sheet.now) (held c.args.sheet.now) (both (g.M.Norm.percentages n) (g.M.SpecialNorm.special n)) c.special.result c.special.ensures
