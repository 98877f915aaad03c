use Rattle.std.proofs.Common.{rules}
use Rattle.column.proofs.Tables.{in_range, replaced}
use Rattle.column.proofs.Column.set.Goals as goal

pub returns : goal.returns
returns c =
    let at = c.in_ok-place.ensures in
    let has = c.in_ok-storey.ensures in
    (at.0, in_range _ has, (_, has, rw c.put.ensures (replaced _ _ _ _ at.1 (search rules))))
