use Rattle.std.proofs.Common.{◌≤◌, vec_capacity, sym, refl, subst, arith}
use Rattle.history.specs.History.{both}
use Rattle.report.specs.Reports.{Reported}
use Rattle.sheet.specs.Held.{held}
use Rattle.sheet_text.specs.Texts.{places_in}
use Rattle.sheet_text.proofs.Blocks.{handed_on}
use Rattle.text_report.specs.TextReports.{FromText}
use Rattle.text_report.proofs.Entered.{report_from}
use Rattle.text_report.proofs.reports.report_as.Goals as goal

pub returns-in_err-sheet : goal.returns-in_err-sheet
returns-in_err-sheet g c =
    let f = c.in_err-sheet.field-0.0 in
    FromText.faulty f c.in_err-sheet.ensures.due (sym (handed_on c.from_residual.result f c.from_residual.ensures.1)) refl

pub returns : goal.returns
returns g c =
    let n = c.args.norm.now in
    let basic = g.M.Norm.percentages n in
    let special = g.M.SpecialNorm.special n in
    let p = places_in c.args.places (vec_capacity c.args.memory) in
    let read = c.in_ok-sheet.ensures in
    let b = held c.in_ok-sheet.sheet in
    let small : p ≤ 32 = omega arith in
    let shown = subst (λ q. Reported g.E.Effect.means g.E.Written.writes c.args.names (both basic special) q b c.args.out.now c.write_report.result c.write_report.new.out) read.places c.write_report.ensures in
    report_from g.E.Effect.means g.E.Written.writes c.args.names basic special p small c.args.text.now b read.due c.args.out.now c.write_report.result c.write_report.new.out shown c.written.result c.written.ensures
