use Rattle.std.proofs.Common.{◌*◌, ◌≤◌, mul-le-mul_left, subst, arith}
use Rattle.reduction.specs.Answer.{Answer}
use Rattle.column.proofs.Bounds.{design_bound}
use Rattle.column.proofs.storeys.Storey.loads.Goals as goal

-- what the reduction leaves of the design load
reduced_bound : (c : goal.After-unwrap-factor)
    → c.args.self.now.load * c.args.self.now.area * c.load_factor.result * c.unwrap-factor.result
    ≤ c.args.self.now.load * c.args.self.now.area * c.load_factor.result * 10000
reduced_bound c = mul-le-mul_left (c.args.self.now.load * c.args.self.now.area * c.load_factor.result) (subst (Answer c.args.self.now.class c.args.self.now.area c.args.count) c.unwrap-factor.ensures c.factor.ensures).laws.high

pub overflow_mul-result-2 : goal.overflow_mul-result-2
overflow_mul-result-2 c = omega (arith, design_bound c.args.self.now c.load_factor.result c.load_factor.ensures, reduced_bound c)

pub returns-clause-bound : goal.returns-clause-bound
returns-clause-bound c = (omega (arith, design_bound c.args.self.now c.load_factor.result c.load_factor.ensures), reduced_bound c)
