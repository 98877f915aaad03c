use Rattle.std.proofs.Common.{sym, ◌∙◌}
use Rattle.reduction.proofs.Norms.{whole, reduced}
use Rattle.reduction.proofs.factor.Goals as goal

pub returns-in-None : goal.returns-in-None
returns-in-None c = whole c.in_ok-class.class _ _ _ c.in_ok-class.ensures (sym c.formula.ensures ∙ c.in-None.is)

pub returns-in_ok-new-in-Some : goal.returns-in_ok-new-in-Some
returns-in_ok-new-in-Some c =
    reduced c.in_ok-class.class c.in-Some.formula c.in_ok-new-in-Some.field-0 _ _ _ c.factor.result c.in_ok-class.ensures
    (sym c.formula.ensures ∙ c.in-Some.is) c.in_ok-new-in-Some.ensures c.factor.ensures.factor c.factor.ensures.bound
