use Rattle.std.proofs.Common.{◌+◌, vec_capacity, ap, subst}
use Rattle.lines.specs.Lines.{newlines}
use Rattle.sheet_text.specs.Texts.{ReadFrom, WholeOf, WholeText, places_in}
use Rattle.sheet_text.proofs.Blocks.{handed_on}
use Rattle.sheet_text.proofs.Wholes.{whole_faulty, whole_read}
use Rattle.sheet_text.proofs.sheets.read_text.Goals as goal

pub returns-in_err-read_heading : goal.returns-in_err-read_heading
returns-in_err-read_heading g c =
    let o = g.E.Effect.means in
    let w = g.E.Written.writes in
    let p = places_in c.args.places (vec_capacity c.args.memory) in
    let text = c.args.text.now in
    let f = c.in_err-read_heading.field-0.0 in
    subst (ReadFrom (WholeText o w p text) (WholeOf w text) p) (handed_on c.from_residual.result f c.from_residual.ensures.1)
    (whole_faulty o w p g.met.E.Written.legible text c.new-tokens.result c.read_heading.new.tokens c.new-tokens.ensures.0 f c.in_err-read_heading.ensures)

pub returns : goal.returns
returns g c =
    let p = places_in c.args.places (vec_capacity c.args.memory) in
    whole_read g.E.Effect.means g.E.Written.writes p g.met.E.Written.legible c.args.text.now c.new-tokens.result c.read_heading.new.tokens c.new-tokens.ensures.0 c.in_ok-read_heading.field-0 c.read_sheet.result
    (ap (λ l. 1 + newlines l) c.new-tokens.ensures.1) c.in_ok-read_heading.ensures c.read_sheet.ensures
