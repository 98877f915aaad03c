use Rattle.std.proofs.Common.{rules}
use Rattle.std.proofs.lemmas.Iterator.{cases_from_all, YieldsList-from_slice}
use Rattle.sheet.specs.Ledger.{Other, Agrees}
use Rattle.sheet.proofs.Lists.{decided_by_all, refuted}
use Rattle.sheet.proofs.groups.Membership.fits.Goals as goal

pub returns : goal.returns
returns g c =
    decided_by_all (λ b. Other c.args.self.own b → Agrees c.args.self.kind c.args.self.group b) c.args.records.now _
    (cases_from_all _ _ _ (λ b. Other c.args.self.own b → Agrees c.args.self.kind c.args.self.group b) (λ b. (Other c.args.self.own b → Agrees c.args.self.kind c.args.self.group b) → ⊥) c.all.ensures.ran (YieldsList-from_slice c.args.records.now cc) (λ x q k. search rules) (λ x q k. search (rules, refuted)))
