use Rattle.std.proofs.Common.{◌≡◌, ◌<◌, get_or, length, arith}
use Rattle.lines.proofs.Integers.{no_minus, not_zero}
use Rattle.lines.proofs.numeral.I64Numeral.from_text.Goals as goal

pub returns-in_err-n-in-45 : goal.returns-in_err-n-in-45
returns-in_err-n-in-45 c =
    let minus : get_or c.args.text.now 0 0 ≡ 45 = omega arith in
    let some : 0 < length c.args.text.now = omega arith in
    rw c.from_residual.ensures (no_minus c.args.text.now some minus (λ n some short e. c.in_err-n-in-45.ensures n short e))

pub returns-in-0 : goal.returns-in-0
returns-in-0 c =
    let minus : get_or c.args.text.now 0 0 ≡ 45 = omega arith in
    let some : 0 < length c.args.text.now = omega arith in
    no_minus c.args.text.now some minus (not_zero _ c.in_ok-n-in-45.n c.in-0.is c.in_ok-n-in-45.ensures.1)
