use Rattle.text_report.specs.TextReports.{OfEffect}
use Rattle.text_report.proofs.reports.report_under.Goals as goal

pub returns-in-N : goal.returns-in-N
returns-in-N g c = OfEffect.by_forces c.in-N.is c.report_as.ensures

pub returns-in-Nm : goal.returns-in-Nm
returns-in-Nm g c = OfEffect.by_moments c.in-Nm.is c.report_as-in-Nm.ensures
