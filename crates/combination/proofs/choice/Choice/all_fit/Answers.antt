use Rattle.std.proofs.Common.{rules}
use Rattle.std.specs.List.{zip}
use Rattle.std.proofs.lemmas.Bool.Decides.{not_from_Decides}
use Rattle.std.proofs.lemmas.Iterator.{cases_from_all, YieldsList-from_slice, YieldsList-from_zip}
use Rattle.combination.specs.Choices.{Fits}
use Rattle.combination.proofs.Places.{decided_by_all}
use Rattle.combination.proofs.choice.Choice.all_fit.Goals as goal

pub returns : goal.returns
returns g c =
    let records = c.args.self.now.records.now in
    let picks = c.args.self.now.picks.now in
    decided_by_all Fits (zip records picks) _
    (cases_from_all {s = c.zip.result} c.all.new.self _ _ Fits (λ l. Fits l → ⊥) c.all.ensures.ran (YieldsList-from_zip (YieldsList-from_slice records cc) (YieldsList-from_slice picks cc)) (λ x q k. search rules) (λ x q k. search (rules, not_from_Decides)))
