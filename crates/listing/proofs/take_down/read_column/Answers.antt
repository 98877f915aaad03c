use Rattle.std.proofs.Common.{◌+◌, arith}
use Rattle.std.proofs.lemmas.Result.{err_from_is_err_and}
use Rattle.listing.specs.Columns.{none, storeys_of}
use Rattle.listing.proofs.Loading.{malformed_row, next_line, refused_row, set_row}
use Rattle.listing.proofs.take_down.read_column.Goals as goal

pub returns-in_err-row : goal.returns-in_err-row
returns-in_err-row c =
    let p = err_from_is_err_and c.from_residual.result c.from_residual.ensures.1 in
    let steps = c.in-Some.ensures.steps in
    rw (p.1, p.2) (c.loop-i.invariant.0 _ (malformed_row _ _ _ c.in-Some.row steps.0 _ c.in_err-row.was))

pub loop-i-preserved : goal.loop-i-preserved
loop-i-preserved c =
    let steps = c.in-Some.ensures.steps in (
      λ r loaded.
          c.loop-i.invariant.0 r
          (set_row _ _ (storeys_of c.loop-i.column) _ steps.0 _ c.in_ok-row.was (storeys_of c.set_row.new.column) (c.in-Some.i + 1) c.in_ok-set_row.ensures r loaded),
      omega (arith, c.loop-i.invariant.1, steps.2, next_line _ _ (storeys_of c.loop-i.column) _ steps.0 _ c.in_ok-row.was),
    )

pub returns-in_err-set_row : goal.returns-in_err-set_row
returns-in_err-set_row c =
    let p = err_from_is_err_and c.from_residual-in_err-set_row.result c.from_residual-in_err-set_row.ensures.1 in
    let steps = c.in-Some.ensures.steps in
    rw (p.1, p.2)
    (c.loop-i.invariant.0 _
    (refused_row _ _ _ _ steps.0 _ c.in_ok-row.was (storeys_of c.set_row.new.column) (c.in-Some.i + 1) _ (omega (arith, c.loop-i.invariant.1, steps.1))
    c.in_err-set_row.ensures))

pub returns : goal.returns
returns c = c.loop-i.invariant.0 _ (none c.in-None.ensures.steps.0.0)
