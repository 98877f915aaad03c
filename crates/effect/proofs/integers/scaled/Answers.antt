use Rattle.std.proofs.Common.{◌≤◌, pos, ◌*ℤ◌, nat_abs, ◌∙◌, w64}
use Rattle.std.proofs.lemmas.Int.{wrapping_mul_is, int_wrap_fits}
use Rattle.effect.specs.Laws.{limit}
use Rattle.effect.specs.Arithmetic.{abs_times, fits_limit, huge_times}
use Rattle.effect.proofs.integers.scaled.Goals as goal

pub returns-in-Ok : goal.returns-in-Ok
returns-in-Ok c h =
    let p = c.args.p in
    let z = c.args.z in
    let small : nat_abs (pos p *ℤ z) ≤ limit = rw (abs_times p z) h in
    rw c.in-Ok.ensures.1 (wrapping_mul_is w64 (pos p) z c.in-Ok.ensures.0 c.ranges.z ∙ int_wrap_fits w64 _ (fits_limit (pos p *ℤ z) small))

pub returns-in-Err : goal.returns-in-Err
returns-in-Err c h = huge_times c.args.p c.args.z c.in-Err.ensures h
