use Rattle.std.proofs.Common.{vec_capacity, sym, refl}
use Rattle.norm.specs.declared.names.NormName.TheVariants.{Sp20, Snip85}
use Rattle.sheet_text.specs.Texts.{places_in}
use Rattle.sheet_text.proofs.Blocks.{handed_on}
use Rattle.text_report.specs.TextReports.{FromAnyText}
use Rattle.text_report.proofs.Effects.{of_norm}
use Rattle.text_report.proofs.reports.report_text.Goals as goal

pub returns-in_err-names : goal.returns-in_err-names
returns-in_err-names c =
    let f = c.in_err-names.field-0.0 in
    FromAnyText.unnamed f c.in_err-names.ensures (sym (handed_on c.from_residual.result f c.from_residual.ensures.1)) refl

pub returns-in-Sp20 : goal.returns-in-Sp20
returns-in-Sp20 c =
    of_norm (places_in c.args.places (vec_capacity c.args.memory.forces)) (places_in c.args.places (vec_capacity c.args.memory.moments)) c.args.text.now c.args.out.now _ _ c.in_ok-names.names c.in_ok-names.ensures Sp20 c.in-Sp20.is c.report_under.ensures

pub returns-in-Snip85 : goal.returns-in-Snip85
returns-in-Snip85 c =
    of_norm (places_in c.args.places (vec_capacity c.args.memory.forces)) (places_in c.args.places (vec_capacity c.args.memory.moments)) c.args.text.now c.args.out.now _ _ c.in_ok-names.names c.in_ok-names.ensures Snip85 c.in-Snip85.is c.report_under-in-Snip85.ensures
