use Rattle.std.proofs.Common.{◌<◌, min, length, sym, subst, arith}
use Rattle.loads.specs.Rules.{Ruled}
use Rattle.std.proofs.ByRecursion.{All-get_or}
use Rattle.std.proofs.lemmas.Slice.Zip.{zip_turn, zip_end}
use Rattle.combination.specs.Computing.{by_table}
use Rattle.combination.proofs.Places.{length_more}
use Rattle.combination.proofs.Ranges.{kept}
use Rattle.combination.proofs.Existence.{existence}
use Rattle.combination.proofs.Invariance.{same_worst}
use Rattle.combination.proofs.Summing.{whole_table, sum_step, summed}
use Rattle.combination.proofs.totals.sum_contributions.Goals as goal

pub loop-of-preserved : goal.loop-of-preserved
loop-of-preserved g c sound long short =
    let o = g.E.Effect.means in
    let records = c.args.choice.now.records.now in
    let picks = c.args.choice.now.picks.now in
    let t = zip_turn records picks c.loop-of.yielded c.into_iter-of-iterator.result c.loop-of.of-iterator c.next.new.self c.next.result (cc) (cc) c.loop-of.yielded_by (c.in-Some.of, c.in-Some.pick) c.in-Some.is c.next.ensures.steps in
    let i = length c.loop-of.yielded in
    let within : i < min (length records) (length picks) = omega (arith, t.0, t.1) in
    let ruled : Ruled o c.in-Some.of.now = subst (Ruled o) (sym (t.2 c.in-Some.of.now)) (All-get_or (Ruled o) records i c.in-Some.of.now t.0 sound.ruled) in
    let next = sum_step o g.met.E.Effect.lawful (by_table c.args.table.now) (whole_table c.args.table.now long short) records picks i c.in-Some.of.now c.in-Some.pick.now _ _ _ (kept o records sound) within (t.2 _) (t.3 _) (c.contribution.ensures ruled long short) (c.loop-of.invariant sound long short) c.sum-sum.ensures in
    rw (length_more c.loop-of.yielded (c.in-Some.of, c.in-Some.pick)) next

pub returns : goal.returns
returns g c norm asked =
    let o = g.E.Effect.means in
    let laws = g.met.E.Effect.lawful in
    let records = c.args.choice.now.records.now in
    let picks = c.args.choice.now.picks.now in
    let t = zip_end records picks c.loop-of.yielded c.into_iter-of-iterator.result c.loop-of.of-iterator c.next.new.self c.next.result (cc) (cc) c.loop-of.yielded_by c.in-None.is c.next.ensures.steps in
    record {
      value = λ sound. summed o laws norm records picks c.args.table.now asked (length c.loop-of.yielded) _ (omega arith) (c.loop-of.invariant sound);
      exists = existence o laws norm;
      same = same_worst o laws norm asked.ranged;
    }
