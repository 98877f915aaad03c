use Rattle.std.proofs.Common.{sym}
use Rattle.column.proofs.Tables.{section}
use Rattle.column.proofs.Column.section.Goals as goal

pub returns-clause-loads : goal.returns-clause-loads
returns-clause-loads c = (c.in_ok-last.ensures.0, section _ _ _ _ _ c.in_ok-last.ensures.1 c.in_ok-last.ensures.0.1 (rw (sym c.down_to.ensures) c.section_loads.ensures))
