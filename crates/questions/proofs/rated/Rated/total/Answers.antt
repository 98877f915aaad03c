use Rattle.std.proofs.Common.{◌≡◌, length, ap, ◌∙◌, arith, rules, take_all}
use Rattle.std.proofs.lemmas.List.{length-map, length-take-le, length_push, get_or_default}
use Rattle.std.proofs.lemmas.Grind.{get_or_default_zero}
use Rattle.effect.specs.Sums.{total}
use Rattle.questions.specs.Items.{item_of, items_of}
use Rattle.questions.specs.PartChoices.{worth, worths, chosen, role_of, roles_of}
use Rattle.questions.specs.declared.choice.Assignment.TheVariants.{Out}
use Rattle.questions.proofs.Assigned.{role_read}
use Rattle.questions.proofs.Readies.{light_of, same_length, item_read, in_range_at, weighed_at}
use Rattle.questions.proofs.Sums.{length_worths, sum_turn}
use Rattle.questions.proofs.Threes.{three_turn, three_end}
use Rattle.questions.proofs.rated.Rated.total.Goals as goal

pub invariant_of-load : goal.invariant_of-load
invariant_of-load g c =
    let s = c.args.self.now in
    let read = three_turn s.loads.now.records.now s.loads.now.weights c.args.choice.now.assignments c.loop-record.yielded c.into_iter-record-iterator.result c.loop-record.record-iterator c.next.new.self c.next.result (cc) (cc) (cc) c.loop-record.yielded_by c.in-Some.record c.in-Some.weight c.in-Some.assignment c.in-Some.is c.next.ensures.steps in
    record { in_range = in_range_at g.E.Effect.means s.loads.now.records.now (length c.loop-record.yielded) c.in-Some.record.now read.1 read.0 s.loads.now.kept.in_range }

pub contribution-part-requires : goal.contribution-part-requires
contribution-part-requires g c =
    let s = c.args.self.now in
    let read = three_turn s.loads.now.records.now s.loads.now.weights c.args.choice.now.assignments c.loop-record.yielded c.into_iter-record-iterator.result c.loop-record.record-iterator c.next.new.self c.next.result (cc) (cc) (cc) c.loop-record.yielded_by c.in-Some.record c.in-Some.weight c.in-Some.assignment c.in-Some.is c.next.ensures.steps in
    let wide : length s.loads.now.weights ≡ 32 = search rules in
    read.2 ∙ get_or_default_zero s.loads.now.weights (length c.loop-record.yielded) c.in-Some.weight.now (omega (arith, read.0, s.loads.now.kept.few)) ∙ weighed_at s.loads.now.weights s.loads.now.records.now (length c.loop-record.yielded) c.in-Some.record.now read.1 read.0 s.loads.now.weighed

pub loop-record-preserved : goal.loop-record-preserved
loop-record-preserved g c =
    let n = g.E.Effect.means in
    let s = c.args.self.now in
    let rs = s.loads.now.records.now in
    let k = length c.loop-record.yielded in
    let item = item_of n s.percents c.in-Some.record.now in
    let read = three_turn s.loads.now.records.now s.loads.now.weights c.args.choice.now.assignments c.loop-record.yielded c.into_iter-record-iterator.result c.loop-record.record-iterator c.next.new.self c.next.result (cc) (cc) (cc) c.loop-record.yielded_by c.in-Some.record c.in-Some.weight c.in-Some.assignment c.in-Some.is c.next.ensures.steps in
    let same : length (items_of n s.percents rs) ≡ length rs = same_length n s.percents rs in
    let all : length c.args.choice.now.assignments ≡ 32 = search rules in
    let long : length (roles_of c.args.choice.now) ≡ 32 = length-map c.args.choice.now.assignments role_of ∙ all in
    rw (length_push c.loop-record.yielded ((c.in-Some.record, c.in-Some.weight), c.in-Some.assignment))
    (sum_turn g.met.E.Effect.lawful (items_of n s.percents rs) (roles_of c.args.choice.now) (light_of g.met.E.Effect.lawful s.percents rs s.loads.now.kept s.whole) (omega (arith, s.loads.now.kept.few)) k item c.contribution-part.result c.loop-record.sum c.sum-sum.result
    (omega (arith, read.0)) (item_read n s.percents rs k c.in-Some.record.now read.0 read.1)
    (c.contribution-part.ensures ∙ ap (worth n item) (c.role.ensures ∙ ap role_of (read.3 ∙ get_or_default c.args.choice.now.assignments k c.in-Some.assignment.now Out (omega (arith, read.0, s.loads.now.kept.few))) ∙ role_read c.args.choice.now k))
    c.loop-record.invariant c.sum-sum.ensures)

pub returns : goal.returns
returns g c =
    let n = g.E.Effect.means in
    let s = c.args.self.now in
    let rs = s.loads.now.records.now in
    let items = items_of n s.percents rs in
    let same : length items ≡ length rs = same_length n s.percents rs in
    let all : length c.args.choice.now.assignments ≡ 32 = search rules in
    let long : length (roles_of c.args.choice.now) ≡ 32 = length-map c.args.choice.now.assignments role_of ∙ all in
    let wide : length s.loads.now.weights ≡ 32 = search rules in
    let end = three_end rs s.loads.now.weights c.args.choice.now.assignments c.loop-record.yielded c.into_iter-record-iterator.result c.loop-record.record-iterator c.next.new.self c.next.result (cc) (cc) (cc) c.loop-record.yielded_by (omega (arith, s.loads.now.kept.few)) (omega (arith, s.loads.now.kept.few)) c.in-None.is c.next.ensures.steps in
    let whole = length_worths g.met.E.Effect.lawful items (chosen items c.args.choice.now) (length-take-le (length items) (roles_of c.args.choice.now) (omega (arith, s.loads.now.kept.few))) in
    c.loop-record.invariant ∙ ap (total n) (take_all (length c.loop-record.yielded) (worths n items (chosen items c.args.choice.now)) (omega (arith, end)))
