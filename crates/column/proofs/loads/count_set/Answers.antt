use Rattle.std.proofs.Common.{◌∙◌}
use Rattle.std.proofs.lemmas.Iterator.Consumers.{count_from_yields_List}
use Rattle.column.proofs.Flat.{yields_set, counted}
use Rattle.column.proofs.loads.count_set.Goals as goal

pub returns : goal.returns
returns c =
    let source = c.flatten.ensures.source in
    let rest = c.iter.ensures.rest in
    let yields = yields_set c.args.storeys.now _ (λ x s gives. (gives.0, gives.1)) (cc) c.flatten.ensures.front c.flatten.ensures.back c.flatten.ensures.done in
    count_from_yields_List _ _ c.count.ensures.ran yields ∙ counted c.args.storeys.now
