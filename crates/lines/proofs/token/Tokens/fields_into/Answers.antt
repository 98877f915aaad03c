use Rattle.std.proofs.Common.{Some, None}
use Rattle.lines.specs.Numeral.{Legible, numeral}
use Rattle.lines.proofs.Integers.{numeral_token}
use Rattle.lines.proofs.SpacedRows.{after_blank, spaced_more, spaced_short}
use Rattle.lines.proofs.token.Tokens.fields_into.Goals as goal

pub returns-in_err-place : goal.returns-in_err-place
returns-in_err-place g c =
    rw c.from_residual.ensures (spaced_short c.loop-i.invariant (numeral_token g.N.Numeral.value g.met.N.Numeral.apart) c.item.new.self c.loop-i-test.true (after_blank (Legible g.N.Numeral.value) (numeral g.N.Numeral.value) c.loop-i.i c.loop-i.self c.item.new.self None c.in_err-place.ensures))

pub loop-i-preserved : goal.loop-i-preserved
loop-i-preserved g c = spaced_more c.loop-i.invariant c.item.new.self c.in_ok-place.field-0 c.loop-i-test.true (after_blank (Legible g.N.Numeral.value) (numeral g.N.Numeral.value) c.loop-i.i c.loop-i.self c.item.new.self (Some c.in_ok-place.field-0) c.in_ok-place.ensures)
