use Rattle.sheet.specs.Held.{held, places_of}
use Rattle.history.proofs.Asked.{basic_asked}
use Rattle.history.proofs.worst.worst_basic.Goals as goal

pub returns : goal.returns
returns g c = basic_asked g.E.Effect.means g.met.E.Effect.lawful (places_of c.args.sheet.now) (held c.args.sheet.now) (g.M.Norm.percentages c.args.norm.now) c.basic.result c.basic.ensures
