use Rattle.std.proofs.Common.{◌∙◌, ap, refl, sum_by, arith}
use Rattle.std.proofs.lemmas.Iterator.Consumers.{YieldsList-end}
use Rattle.column.specs.Loads.{full_of, reduced_of}
use Rattle.column.proofs.Flat.{yields_set, counted, summed_now}
use Rattle.column.proofs.loads.section_loads.Goals as goal

pub returns : goal.returns
returns c =
    let xs = c.args.storeys.now in
    let ys = c.loop-storey.yielded in
    let n = c.count_set-count.result in
    let rest = c.iter.ensures.rest in
    let source = c.flatten-storey-items.ensures.source in
    let front = c.flatten-storey-items.ensures.front in
    let back = c.flatten-storey-items.ensures.back in
    let done = c.flatten-storey-items.ensures.done in
    let same = c.into_iter-storey-iterator.ensures.into_iter_gives in
    let yields = yields_set xs _ (λ x s gives. (gives.0, gives.1)) (cc) (cc) (cc) (cc) in
    let end = YieldsList-end yields ys _ c.loop-storey.yielded_by _ _ c.in-None.is c.next.ensures.steps in
    record {
      full_sum = c.loop-storey.invariant.0 ∙ summed_now full_of refl xs ys end.0;
      reduced_sum = c.loop-storey.invariant.1 ∙ summed_now (reduced_of n) refl xs ys end.0 ∙ ap (λ k. sum_by (reduced_of k) xs) c.count_set-count.ensures;
      reduced_low = c.loop-storey.invariant.3;
      full_high = omega (arith, c.loop-storey.invariant.2, end.1, counted xs);
    }
