use Rattle.std.proofs.Common.{◌≡◌, ◌+◌, ◌≤◌, map, length, take, sym, ap, ◌∙◌, subst, arith, rules}
use Rattle.sheet.specs.Held.{held, places_of}
use Rattle.history.specs.History.{both}
use Rattle.history.specs.Logs.{turns_of}
use Rattle.history.proofs.Traces.{Sofar, noted, sofar_history, all_made, no_room}
use Rattle.history.proofs.replays.replay.Goals as goal

pub returns-in_default : goal.returns-in_default
returns-in_default g c =
    let p = places_of c.loop-call.sheet in
    let norm = both (g.M.Norm.percentages c.args.norm.now) (g.M.SpecialNorm.special c.args.norm.now) in
    record {
      law = no_room g.E.Effect.means norm p c.args.calls.now c.args.log.now c.begin.new.self c.begin.ensures.grown c.loop-call.sheet.room.2
          c.loop-call.call-index c.loop-call.log c.make_room.new.self c.in_default.field-0 (held c.loop-call.sheet)
          c.loop-call.invariant.1 c.loop-call-test.true c.in_default.ensures;
      places = c.loop-call.invariant.0 ∙ c.open-sheet.ensures.places;
    }

pub note-requires : goal.note-requires
note-requires g c =
    let s = c.perform-outcome.new.sheet in
    record {
      room = search rules;
      few = omega (arith, ap length c.records-in-loop-call.ensures, s.room, s.records.ok.0);
    }

pub loop-call-preserved : goal.loop-call-preserved
loop-call-preserved g c =
    let o = g.E.Effect.means in
    let norm = both (g.M.Norm.percentages c.args.norm.now) (g.M.SpecialNorm.special c.args.norm.now) in
    let s = c.perform-outcome.new.sheet in
    let p = places_of c.loop-call.sheet in
    let b = held c.loop-call.sheet in
    let same : p ≡ places_of s = sym c.perform-outcome.ensures.places in
    let few : length c.records-in-loop-call.result.now ≤ 32 = omega (arith, ap length c.records-in-loop-call.ensures, s.room, s.records.ok.0) in
    let past = sofar_history o norm p c.args.calls.now c.begin.new.self c.loop-call.sheet.room.2 c.loop-call.call-index c.loop-call.log b c.loop-call.invariant.1 in (
      c.perform-outcome.ensures.places ∙ c.loop-call.invariant.0,
      subst (λ p. Sofar o norm p c.args.calls.now c.begin.new.self (c.loop-call.call-index + 1) c.note.new.self (held s)) same
          (noted o norm p c.args.calls.now c.begin.new.self c.loop-call.call-index c.loop-call.log c.make_room.new.self
          c.note.new.self c.make_room.result b (held s) c.records-in-loop-call.result.now c.call-item.result c.perform-outcome.result c.loop-call.invariant.1
          c.make_room.ensures (c.perform-outcome.ensures.law.keeps (take c.loop-call.call-index c.args.calls.now) (map (λ t. t.outcome) (turns_of c.loop-call.log)) past) c.records-in-loop-call.ensures few c.note.ensures c.loop-call-test.true c.call-item.is),
    )

pub returns : goal.returns
returns g c =
    let p = places_of c.loop-call.sheet in
    let norm = both (g.M.Norm.percentages c.args.norm.now) (g.M.SpecialNorm.special c.args.norm.now) in
    record {
      law = all_made g.E.Effect.means norm p c.args.calls.now c.args.log.now c.begin.new.self c.begin.ensures.grown c.loop-call.sheet.room.2
          c.loop-call.call-index c.loop-call.log (held c.loop-call.sheet) c.loop-call.invariant.1 (omega arith) c.loop-call-test.false;
      places = c.loop-call.invariant.0 ∙ c.open-sheet.ensures.places;
    }
