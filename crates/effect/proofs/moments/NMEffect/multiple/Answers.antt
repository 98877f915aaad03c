use Rattle.std.proofs.Common.{◌≡◌, ◌*◌, ◌≤◌, ℤ, nat_abs, ◌∙◌, mul-le-mul_left, arith, w64, SFits, rules}
use native.Mathlib.Nat.{le-max_left, le-max_right}
use Rattle.std.proofs.lemmas.Int.{to_z-of_z}
use Rattle.effect.specs.Laws.{limit}
use Rattle.effect.specs.Models.{of_pair}
use Rattle.effect.proofs.moments.NMEffect.multiple.Goals as goal

same_pair : {a b c d : ℤ} → a ≡ b → c ≡ d → of_pair a c ≡ of_pair b d
same_pair h k = cc

pub returns : goal.returns
returns c h =
    let p = c.args.p in
    let f = c.args.self.force in
    let m = c.args.self.moment in
    let left : p * nat_abs f ≤ limit = omega (arith, mul-le-mul_left p (le-max_left (nat_abs f) (nat_abs m))) in
    let right : p * nat_abs m ≤ limit = omega (arith, mul-le-mul_left p (le-max_right (nat_abs f) (nat_abs m))) in
    let force-fits : SFits w64 f = search rules in
    let moment-fits : SFits w64 m = search rules in
    let first_fits : SFits w64 c.scaled.result = search rules in
    let second_fits : SFits w64 c.scaled-2.result = search rules in
    let first = (simp to_z-of_z at c.scaled.ensures) left in
    let second = (simp to_z-of_z at c.scaled-2.ensures) right in
    same_pair (to_z-of_z w64 c.scaled.result first_fits ∙ first) (to_z-of_z w64 c.scaled-2.result second_fits ∙ second)
