use Rattle.std.proofs.Common.{subst}
use Rattle.history.specs.History.{both}
use Rattle.report.specs.Reports.{report_text}
use Rattle.writing.specs.Writing.{Fitted}
use Rattle.report.proofs.reports.write_report.Goals as goal

pub returns : goal.returns
returns g c =
    let n = c.args.norm.now in
    let norm = both (g.M.Norm.percentages n) (g.M.SpecialNorm.special n) in
    record {
      basic = c.worst_basic.result;
      special = c.worst_special.result;
      basic_asked = c.worst_basic.ensures;
      special_asked = c.worst_special.ensures;
      written = subst (λ rs. Fitted (report_text g.E.Written.writes c.args.names norm rs c.worst_basic.result c.worst_special.result) c.args.out.now c.write_whole.result c.write_whole.new.out) c.records.ensures c.write_whole.ensures;
    }
