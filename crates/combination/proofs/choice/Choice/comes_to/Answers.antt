use Rattle.combination.proofs.choice.Choice.comes_to.Goals as goal

pub returns : goal.returns
returns g c = c.sum_contributions.ensures (g.M.Norm.percentages c.args.norm.now) c.table.ensures
