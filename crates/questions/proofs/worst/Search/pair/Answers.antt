use Rattle.std.proofs.Common.{ℕ, Some, None, sym, subst}
use Rattle.questions.specs.Engine.{PairBest}
use Rattle.questions.specs.Items.{full, items_of}
use Rattle.questions.specs.Tables.{Answers}
use Rattle.questions.proofs.Finds.{no_long, no_short, no_special, room, found}
use Rattle.questions.proofs.worst.Search.pair.Goals as goal

pub returns-in_err-long : goal.returns-in_err-long
returns-in_err-long g c =
    let rs = c.args.self.now.loads.now.records.now in
    subst (PairBest g.E.Effect.means c.args.self.now.question rs c.args.granted c.args.taken) (sym c.from_residual.ensures) (no_long g.met.E.Effect.lawful c.args.self.now.question rs c.args.self.now.loads.now.kept c.args.tables.now c.requires.prepared c.args.granted c.requires.by_long c.requires.by_short c.args.taken c.in_err-long.ensures)

pub returns-in_err-short : goal.returns-in_err-short
returns-in_err-short g c =
    let rs = c.args.self.now.loads.now.records.now in
    subst (PairBest g.E.Effect.means c.args.self.now.question rs c.args.granted c.args.taken) (sym c.from_residual-in_err-short.ensures) (no_short g.met.E.Effect.lawful c.args.self.now.question rs c.args.self.now.loads.now.kept c.args.tables.now c.requires.prepared c.args.granted c.requires.by_long c.requires.by_short c.args.taken c.in_err-short.ensures)

pub returns-in_err-special : goal.returns-in_err-special
returns-in_err-special g c =
    let rs = c.args.self.now.loads.now.records.now in
    let s = subst (λ (n : ℕ). Answers g.E.Effect.means (items_of g.E.Effect.means full rs) c.args.tables.now.special.wanted n None) c.specials.ensures.value c.in_err-special.ensures in
    subst (PairBest g.E.Effect.means c.args.self.now.question rs c.args.granted c.args.taken) (sym c.from_residual-in_err-special.ensures) (no_special g.met.E.Effect.lawful c.args.self.now.question rs c.args.self.now.loads.now.kept c.args.tables.now c.requires.prepared c.args.granted c.requires.by_long c.requires.by_short c.args.taken s)

pub together-effect-requires : goal.together-effect-requires
together-effect-requires g c =
    let rs = c.args.self.now.loads.now.records.now in
    let s = subst (λ (n : ℕ). Answers g.E.Effect.means (items_of g.E.Effect.means full rs) c.args.tables.now.special.wanted n (Some c.in_ok-special.special)) c.specials.ensures.value c.in_ok-special.ensures in
    room g.met.E.Effect.lawful c.args.self.now.question rs c.args.self.now.loads.now.kept c.args.tables.now c.requires.prepared c.args.granted c.requires.by_long c.requires.by_short c.args.taken (record { long = c.in_ok-long.long; short = c.in_ok-short.short; special = c.in_ok-special.special }) c.in_ok-long.ensures c.in_ok-short.ensures s

pub returns : goal.returns
returns g c =
    let rs = c.args.self.now.loads.now.records.now in
    let s = subst (λ (n : ℕ). Answers g.E.Effect.means (items_of g.E.Effect.means full rs) c.args.tables.now.special.wanted n (Some c.in_ok-special.special)) c.specials.ensures.value c.in_ok-special.ensures in
    found g.met.E.Effect.lawful c.args.self.now.question rs c.args.self.now.loads.now.kept c.args.tables.now c.requires.prepared c.args.granted c.requires.by_long c.requires.by_short c.args.taken (record { long = c.in_ok-long.long; short = c.in_ok-short.short; special = c.in_ok-special.special }) c.in_ok-long.ensures c.in_ok-short.ensures s c.together-effect.result c.together-effect.ensures
