use Rattle.std.proofs.Common.{◌&&◌, ◌∙◌, rules, tests}
use Rattle.std.specs.List.{zip}
use Rattle.std.proofs.lemmas.Iterator.{YieldsList-from_slice, YieldsList-from_zip}
use Rattle.std.proofs.lemmas.Iterator.Consumers.{YieldsList-from_filter, count_from_yields_List}
use Rattle.combination.specs.Choices.{Line, is_of_kind}
use Rattle.combination.specs.Computing.{is_counted_pick}
use Rattle.combination.proofs.Places.{count_is}
use Rattle.combination.proofs.choice.Choice.count.Goals as goal

pub returns : goal.returns
returns g c =
    let test : Line g.row.E.Denot → _ = λ l. is_of_kind c.args.kind l.0.kind && is_counted_pick c.args.role l.1 in
    let records = c.args.self.now.records.now in
    let picks = c.args.self.now.picks.now in
    count_from_yields_List c.filter.result _ c.count.ensures.ran
    (YieldsList-from_filter _ test (YieldsList-from_zip (YieldsList-from_slice records cc) (YieldsList-from_slice picks cc)) c.filter.ensures.closure (λ x r q k. search (rules, tests)))
    ∙ count_is test (zip records picks)
