use Rattle.questions.proofs.Finds.{ml, mt}
use Rattle.questions.proofs.Loops.{covers_none}
use Rattle.questions.proofs.Subchoices.{long_limit, short_limit}
use Rattle.questions.proofs.worst.Search.worst.Goals as goal

pub loop-long-init : goal.loop-long-init
loop-long-init g c =
    let e = g.E.Effect.means in
    let rs = c.args.self.now.loads.now.records.now in
    let tables = c.tables_of-tables.result in (
      c.tables_of-tables.ensures,
      λ one. covers_none e (g.M.Norm.percentages c.args.self.now.norm.now) c.args.self.now.question rs c.most_of-longs.result (long_limit e c.args.self.now.question rs tables.long.wanted c.most_of-longs.result c.most_of-longs.ensures.bound (ml g.met.E.Effect.lawful c.args.self.now.question rs c.args.self.now.loads.now.kept tables c.tables_of-tables.ensures)),
    )

pub across-best-requires-clause-shorts : goal.across-best-requires-clause-shorts
across-best-requires-clause-shorts g c =
    let rs = c.args.self.now.loads.now.records.now in
    let tables = c.tables_of-tables.result in
    short_limit g.E.Effect.means c.args.self.now.question rs tables.short.wanted c.most_of-shorts.result c.most_of-shorts.ensures.bound (mt g.met.E.Effect.lawful c.args.self.now.question rs c.args.self.now.loads.now.kept tables c.tables_of-tables.ensures)
