use Rattle.std.proofs.Common.{◌∙◌, Some, slice_set, ap}
use Rattle.column.proofs.example.two_storeys.Goals as goal

pub both_sections-requires : goal.both_sections-requires
both_sections-requires c =
    let (_, _, (top, top_has, first)) = c.in_ok-set.ensures in
    let (_, _, (lower, lower_has, second)) = c.in_ok-set-2.ensures in
    record {
      top = top;
      lower = lower;
      top_has = top_has;
      lower_has = lower_has;
      column = second.table ∙ ap (λ xs. slice_set xs 1 (Some lower)) (first.table ∙ ap (λ xs. slice_set xs 0 (Some top)) c.new-column.ensures);
    }
