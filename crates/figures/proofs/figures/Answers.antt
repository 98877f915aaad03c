use Rattle.figures.proofs.Computed.{figures, nine_square_metres, little_more, twenty, four_storeys, three_storeys, hall}
use Rattle.figures.proofs.figures.Goals as goal

pub returns : goal.returns
returns c =
    let r = c.worked_factors.ensures in
    record { factors = cc (nine_square_metres, little_more, twenty, four_storeys, three_storeys, hall); figures = figures }
