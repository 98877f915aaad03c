use Rattle.column.proofs.TwoStoreys.{below_1, below_2}
use Rattle.column.proofs.example.both_sections.Goals as goal

pub returns : goal.returns
returns c =
    let first = below_1 c.args.column.now.storeys c.requires c.section.result c.section.ensures.loads in
    let second = below_2 c.args.column.now.storeys c.requires c.section-2.result c.section-2.ensures.loads in
    let was-1 = c.in_ok-section.was in
    let was-2 = c.in_ok-section-2.was in
    cc
