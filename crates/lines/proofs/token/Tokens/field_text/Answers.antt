use Rattle.std.proofs.lemmas.Bool.{eqb-false}
use Rattle.std.proofs.Common.{length, eqb-true, sym, refl, ◌∙◌, arith}
use Rattle.lines.proofs.Readings.{flags_agree, flags_differ, reads_text, reads_empty, reads_no_field, reads_text_apart}
use Rattle.lines.proofs.token.Tokens.field_text.Goals as goal

pub returns-then-at_blank-blank : goal.returns-then-at_blank-blank
returns-then-at_blank-blank c =
    reads_text_apart c.args.blank c.args.self.now c.args.self.now
    (λ same. flags_differ c.at_blank.result c.args.blank c.if-at_blank-blank.true (c.at_blank.ensures ∙ same)) refl

pub returns-in_err-text : goal.returns-in_err-text
returns-in_err-text c =
    rw c.from_residual.ensures (reads_no_field c.args.blank c.args.self.now c.token_text.new.self c.in_err-text.ensures)

pub returns-then-is_empty : goal.returns-then-is_empty
returns-then-is_empty c =
    reads_empty c.args.blank c.args.self.now c.token_text.new.self _ c.in_ok-text.ensures (eqb-true _ _ (sym c.is_empty.ensures ∙ c.if-is_empty.true))

pub returns : goal.returns
returns c =
    let lead = sym c.at_blank.ensures ∙ flags_agree c.at_blank.result c.args.blank c.if-at_blank-blank.false in
    let some = eqb-false (length c.in_ok-text.text.now) 0 (sym c.is_empty.ensures ∙ c.if-is_empty.false) in
    reads_text c.args.blank c.args.self.now c.token_text.new.self _ lead c.in_ok-text.ensures (omega (arith, some))
