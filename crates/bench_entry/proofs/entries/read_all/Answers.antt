use Rattle.std.proofs.Common.{◌<◌, ◌≢◌, length, sym, ◌∙◌, subst, arith, below_more}
use Rattle.std.proofs.lemmas.List.{length-set, length-take-le, get_or_default, get_or-set_same, get_or-set_other, get_or-take}
use Rattle.bench_entry.specs.Entries.{Writes, ReadsAll}
use Rattle.bench_entry.specs.declared.entries.Entry.{Entry}
use Rattle.bench_entry.proofs.entries.read_all.Goals as goal

pub returns-in_err-records : goal.returns-in_err-records
returns-in_err-records c =
    subst (ReadsAll c.args.entries.now) (sym c.from_residual.ensures)
    (λ rs few w. c.in_err-records.ensures _ (w.each c.loop-k.k c.loop-k-test.true _ c.record-blank.result).0)

pub loop-k-preserved : goal.loop-k-preserved
loop-k-preserved c =
    let k = c.loop-k.k in
    let x = c.in_ok-records.field-0 in
    let inside : k < length c.loop-k.records = omega arith in (
      length-set _ _ _ ∙ c.loop-k.invariant.0,
      below_more _ _
          (λ j h e r. let ne : j ≢ k = omega arith in rw get_or-set_other (c.loop-k.invariant.1 j h e r))
          (λ e r. rw get_or-set_same (subst (λ (v : Entry). Writes v x) (get_or_default c.args.entries.now k _ e c.loop-k-test.true) c.in_ok-records.ensures)),
    )

pub returns : goal.returns
returns c = (
  omega arith,
  record {
    number = length-take-le _ _ (omega arith);
    each = λ k h e r. rw get_or-take (c.loop-k.invariant.1 k (omega arith) e r);
  },
)
