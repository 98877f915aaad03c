use Rattle.std.proofs.Common.{◌≡◌, ◌+◌, Bool, List, sym, refl, ◌∙◌, subst, arith}
use Rattle.std.proofs.lemmas.Bool.Decides.{not_from_Decides}
use Rattle.questions.specs.Tables.{TableBest}
use Rattle.questions.specs.declared.table.Table.{Table}
use Rattle.questions.proofs.Bounds.{best_raised}
use Rattle.questions.proofs.Groupmates.{Carrying, carrying_none, carrying_skip, carrying_more, carrying_all, carrying_opens}
use Rattle.questions.specs.Items.{items_of}
use Rattle.questions.proofs.Readies.{same_length}
use Rattle.questions.proofs.table.Table.carry.Goals as goal
use Rattle.questions.proofs.table.Table.carry.Goals.{then-is_fellow, else-is_fellow}

pub offer-requires-clause-opens : goal.offer-requires-clause-opens
offer-requires-clause-opens g c = carrying_opens (items_of g.E.Effect.means c.args.rated.now.percents c.args.rated.now.loads.now.records.now) c.args.wanted.now c.args.i c.args.self.now.done (omega (arith, c.requires.here, same_length g.E.Effect.means c.args.rated.now.percents c.args.rated.now.loads.now.records.now)) c.requires.asked c.requires.fresh c.requires.closed c.loop-j.j (omega (arith, c.loop-j-test.true, same_length g.E.Effect.means c.args.rated.now.percents c.args.rated.now.loads.now.records.now)) (omega (arith, c.args.rated.now.loads.now.kept.few, same_length g.E.Effect.means c.args.rated.now.percents c.args.rated.now.loads.now.records.now)) ((c.is_fellow.ensures c.args.rated.now.percents).0 c.if-is_fellow.true) c.loop-j.invariant.1

pub loop-j-init : goal.loop-j-init
loop-j-init g c = (best_raised c.args.self.now c.requires.room c.requires.best, carrying_none (items_of g.E.Effect.means c.args.rated.now.percents c.args.rated.now.loads.now.records.now) c.args.wanted.now c.args.i c.args.self.now.done c.requires.best.flags, refl, refl)

pub loop-j-preserved : goal.loop-j-preserved
loop-j-preserved g c =
    let after : Table → Type 0 = λ t. TableBest g.E.Effect.means (items_of g.E.Effect.means c.args.rated.now.percents c.args.rated.now.loads.now.records.now) t × Carrying (items_of g.E.Effect.means c.args.rated.now.percents c.args.rated.now.loads.now.records.now) c.args.wanted.now c.args.i c.args.self.now.done t.done (c.loop-j.j + 1) × (t.groups ≡ c.args.self.now.groups + 1) × (t.limit ≡ c.args.self.now.limit) in
    elim c.if-is_fellow.branch [
      | then-is_fellow w ↦ subst after (sym w.self-is) (
        w.offer.ensures.best,
        subst (λ (d : List Bool). Carrying (items_of g.E.Effect.means c.args.rated.now.percents c.args.rated.now.loads.now.records.now) c.args.wanted.now c.args.i c.args.self.now.done d (c.loop-j.j + 1)) (sym w.offer.ensures.done)
            (carrying_more (items_of g.E.Effect.means c.args.rated.now.percents c.args.rated.now.loads.now.records.now) c.args.wanted.now c.args.i c.args.self.now.done c.loop-j.j (omega (arith, c.args.rated.now.loads.now.kept.few, c.loop-j-test.true)) ((c.is_fellow.ensures c.args.rated.now.percents).0 w.if-is_fellow.true) c.loop-j.invariant.1),
        w.offer.ensures.groups ∙ c.loop-j.invariant.2,
        w.offer.ensures.limit ∙ c.loop-j.invariant.3,
      )
      | else-is_fellow w ↦ subst after (sym w.self-is) (
        c.loop-j.invariant.0,
        carrying_skip (items_of g.E.Effect.means c.args.rated.now.percents c.args.rated.now.loads.now.records.now) c.args.wanted.now c.args.i c.args.self.now.done c.loop-j.j (not_from_Decides c.is_fellow.result (c.is_fellow.ensures c.args.rated.now.percents) w.if-is_fellow.false) c.loop-j.invariant.1,
        c.loop-j.invariant.2,
        c.loop-j.invariant.3,
      )
    ]

pub returns-clause-carried : goal.returns-clause-carried
returns-clause-carried g c = carrying_all (items_of g.E.Effect.means c.args.rated.now.percents c.args.rated.now.loads.now.records.now) c.args.wanted.now c.args.i c.args.self.now.done c.loop-j.j (omega (arith, c.loop-j-test.false, same_length g.E.Effect.means c.args.rated.now.percents c.args.rated.now.loads.now.records.now)) c.loop-j.invariant.1
