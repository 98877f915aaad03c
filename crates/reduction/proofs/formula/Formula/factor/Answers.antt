use Rattle.std.proofs.Common.{mul-le-mul, arith}
use Rattle.reduction.proofs.Factors.{reduced_by, sized_of}
use Rattle.reduction.proofs.formula.Formula.factor.Goals as goal

pub smallest-requires : goal.smallest-requires
smallest-requires c = (c.requires.some, mul-le-mul {n₁ = 1} {m₁ = 1} (omega arith) c.args.extent.storeys_low)

pub overflow_add-result : goal.overflow_add-result
overflow_add-result c =
    let known = reduced_by _ _ _ _ c.smallest.result c.requires (sized_of c.args.extent) c.max.ensures c.smallest.ensures in
    omega arith

pub returns : goal.returns
returns c =
    let known = reduced_by _ _ _ _ c.smallest.result c.requires (sized_of c.args.extent) c.max.ensures c.smallest.ensures in
    record { factor = known.0; bound = known.1 }
