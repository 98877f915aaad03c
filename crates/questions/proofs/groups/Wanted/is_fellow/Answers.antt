use Rattle.questions.specs.Items.{items_of}
use Rattle.questions.proofs.Groupmates.{fellow_by_group}
use Rattle.questions.proofs.Readies.{group_shown}
use Rattle.questions.proofs.groups.Wanted.is_fellow.Goals as goal

pub returns : goal.returns
returns g c p =
    fellow_by_group (items_of g.E.Effect.means p c.args.self.now.loads.now.records.now) c.args.self.now.flags.now c.args.i c.args.j _ _
    (group_shown g.E.Effect.means p c.args.self.now.loads.now.records.now c.args.i c.index-records-i.result c.requires.first)
    (group_shown g.E.Effect.means p c.args.self.now.loads.now.records.now c.args.j c.index-records-j.result c.requires.second)
    c.if-i-j.false
    c.if-not-self-j.false
    c.shares_group.result
    c.shares_group.ensures
