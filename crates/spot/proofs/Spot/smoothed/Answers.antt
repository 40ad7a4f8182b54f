-- `Spot::smoothed` meets its contract: colour by colour.
use Rattle.spot.specs.Spot.{spot}
use Rattle.spot.proofs.Spot.smoothed.Goals as goal

pub returns : goal.returns
returns c = λ i. spot (c.smoothed.ensures i) (c.smoothed-2.ensures i) (c.smoothed-3.ensures i)
