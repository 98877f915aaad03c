use Rattle.std.proofs.Common.{arith}
use Rattle.questions.proofs.Ends.{answers}
use Rattle.questions.proofs.Readies.{same_length}
use Rattle.questions.proofs.known.Known.best.Goals as goal

pub returns-in-0 : goal.returns-in-0
returns-in-0 g c =
    let h = c.in-0 in
    let b = c.requires.tabled.built c.args.rated.now.percents c.requires.built in
    answers g.E.Effect.means c.args.self.now.wanted (λ k h m. b.all k (omega (arith, same_length g.E.Effect.means c.args.rated.now.percents c.args.rated.now.loads.now.records.now)) m) b.only c.args.number 0 0 _ (omega arith) (omega arith) (b.best.each c.args.number _ c.requires.rows).neither

pub returns-in-1 : goal.returns-in-1
returns-in-1 g c =
    let h = c.in-1 in
    let b = c.requires.tabled.built c.args.rated.now.percents c.requires.built in
    answers g.E.Effect.means c.args.self.now.wanted (λ k h m. b.all k (omega (arith, same_length g.E.Effect.means c.args.rated.now.percents c.args.rated.now.loads.now.records.now)) m) b.only c.args.number 1 0 _ (omega arith) (omega arith) (b.best.each c.args.number _ c.requires.rows).leading

pub returns-in_default : goal.returns-in_default
returns-in_default g c =
    let h = c.in_default in
    let b = c.requires.tabled.built c.args.rated.now.percents c.requires.built in
    answers g.E.Effect.means c.args.self.now.wanted (λ k h m. b.all k (omega (arith, same_length g.E.Effect.means c.args.rated.now.percents c.args.rated.now.loads.now.records.now)) m) b.only c.args.number 1 1 _ (omega arith) (omega arith) (b.best.each c.args.number _ c.requires.rows).both
