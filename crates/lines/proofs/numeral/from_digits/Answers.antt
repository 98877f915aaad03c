use Rattle.std.proofs.Common.{◌≡◌, ◌+◌, ◌*◌, ◌<◌, get_or, ap, ◌∙◌, subst, sym, arith}
use borrow.Author.Tests.{clash}
use Rattle.std.specs.Char.{digit_value}
use Rattle.std.specs.Str.Parse.{AllDigits, digits_value}
use Rattle.std.proofs.lemmas.List.{take_all}
use Rattle.lines.proofs.Numbers.{below, digit_more, no_digit}
use Rattle.lines.proofs.numeral.from_digits.Goals as goal

pub returns-in_err-digit : goal.returns-in_err-digit
returns-in_err-digit c =
    rw c.from_residual.ensures (no_digit c.args.text.now c.loop-b.b-index c.loop-b-test.true (λ d. clash (c.in_err-digit.ensures.succeeds (rw c.from.ensures d))))

pub overflow_mul-n : goal.overflow_mul-n
overflow_mul-n c =
    let small = below c.args.text.now c.loop-b.b-index c.loop-b.n c.requires c.loop-b-test.true c.loop-b.invariant.0 c.loop-b.invariant.1 in
    omega arith

pub overflow_add-n : goal.overflow_add-n
overflow_add-n c =
    let small = below c.args.text.now c.loop-b.b-index c.loop-b.n c.requires c.loop-b-test.true c.loop-b.invariant.0 c.loop-b.invariant.1 in
    omega (arith, c.in_ok-digit.ensures.value, c.from-in-loop-b.ensures)

pub loop-b-preserved : goal.loop-b-preserved
loop-b-preserved c =
    let digit : digit_value (get_or c.args.text.now c.loop-b.b-index 0) < 10 = rw (sym c.from.ensures) c.in_ok-digit.ensures.value.0 in
    let same : c.from-in-loop-b.result ≡ digit_value (get_or c.args.text.now c.loop-b.b-index 0) = c.from-in-loop-b.ensures ∙ c.in_ok-digit.ensures.value.1 ∙ ap digit_value c.from.ensures in
    let more = digit_more c.args.text.now c.loop-b.b-index c.loop-b.n c.loop-b-test.true c.loop-b.invariant.0 c.loop-b.invariant.1 digit in
    (more.0, (λ j. c.loop-b.n * 10 + same j) ∙ more.1)

pub returns : goal.returns
returns c =
    let all = take_all c.loop-b.b-index c.args.text.now c.loop-b-test.false in
    (subst (AllDigits 10) all c.loop-b.invariant.0, c.loop-b.invariant.1 ∙ ap (digits_value 10) all)
