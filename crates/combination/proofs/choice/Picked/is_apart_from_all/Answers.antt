use Rattle.std.proofs.Common.{rules}
use Rattle.std.specs.List.{zip}
use Rattle.std.proofs.lemmas.Bool.Decides.{not_from_Decides}
use Rattle.std.proofs.lemmas.Iterator.{cases_from_all, YieldsList-from_slice, YieldsList-from_zip}
use Rattle.combination.specs.Choices.{Apart}
use Rattle.combination.proofs.Places.{decided_by_all}
use Rattle.combination.proofs.choice.Picked.is_apart_from_all.Goals as goal

pub returns : goal.returns
returns g c =
    let from = Apart (c.args.self.now.of.now, c.args.self.now.pick) in
    let records = c.args.others.now.records.now in
    let picks = c.args.others.now.picks.now in
    decided_by_all from (zip records picks) _
    (cases_from_all {s = c.zip.result} c.all.new.self _ _ from (λ l. from l → ⊥) c.all.ensures.ran (YieldsList-from_zip (YieldsList-from_slice records cc) (YieldsList-from_slice picks cc)) (λ x q k. search rules) (λ x q k. search (rules, not_from_Decides)))
