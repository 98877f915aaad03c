use Rattle.std.proofs.Common.{◌<◌, length, sym, ◌∙◌, arith}
use Rattle.std.proofs.lemmas.Bool.{eqb-false, eqb-true}
use Rattle.lines.proofs.Numbers.{empty_text, is_number, long_text, loose_text}
use Rattle.lines.proofs.numeral.U64Numeral.from_text.Goals as goal
use Rattle.lines.proofs.numeral.U64Numeral.from_text.Goals.{then-is_empty-via-then-is_empty, then-is_empty-via-else-is_empty+then-text-gt10, then-is_empty-via-else-is_empty+else-text-gt10+then-starts_loosely}

pub returns-then-is_empty : goal.returns-then-is_empty
returns-then-is_empty c =
    elim c.then-is_empty.branch [
      | then-is_empty-via-then-is_empty w ↦ empty_text c.args.text.now (eqb-true (length c.args.text.now) 0 (sym c.is_empty.ensures ∙ w.if-is_empty.true))
      | then-is_empty-via-else-is_empty+then-text-gt10 w ↦ long_text c.args.text.now w.if-text-gt10.true
      | then-is_empty-via-else-is_empty+else-text-gt10+then-starts_loosely w ↦ loose_text c.args.text.now (sym w.starts_loosely.ensures ∙ w.if-starts_loosely.true)
    ]

pub returns : goal.returns
returns c =
    let none = eqb-false (length c.args.text.now) 0 (sym c.is_empty.ensures ∙ c.if-is_empty.false) in
    let some : 0 < length c.args.text.now = omega (arith, none) in
    is_number c.args.text.now c.from_digits.result (sym c.starts_loosely.ensures ∙ c.if-starts_loosely.false) some c.if-text-gt10.false c.from_digits.ensures
