use Rattle.std.proofs.Common.{length-take, length-drop, length-set, ◌≡◌, suc, ◌-◌, ◌<◌, length, sym, ◌∙◌, arith}
use Rattle.std.proofs.lemmas.Bool.{eqb-false}
use Rattle.lines.proofs.FirstRows.{no_start, row_read, written_over}
use Rattle.lines.proofs.Readings.{decimal_token}
use Rattle.lines.proofs.token.Tokens.row_into.Goals as goal

pub returns-in_err-out : goal.returns-in_err-out
returns-in_err-out c =
    let some = eqb-false (length c.args.out.now) 0 (sym c.is_empty.ensures ∙ c.if-is_empty.false) in
    let long : length c.args.out.now ≡ suc (length c.args.out.now - 1) = omega (arith, some) in
    rw (c.from_residual.ensures, long) (no_start decimal_token (length c.args.out.now - 1) c.args.self.now c.item.new.self c.in_err-out.ensures)

pub returns : goal.returns
returns c =
    let none = eqb-false (length c.args.out.now) 0 (sym c.is_empty.ensures ∙ c.if-is_empty.false) in
    let some : 0 < length c.args.out.now = omega (arith, none) in
    row_read _ _ c.args.self.now c.item.new.self c.fields_into.new.self c.in_ok-out.field-0 c.fields_into.result c.fields_into.new.out _ (simp (length-take, length-drop, length-set) (omega arith)) (written_over c.args.out.now c.in_ok-out.field-0 c.fields_into.new.out some) c.in_ok-out.ensures c.fields_into.ensures
