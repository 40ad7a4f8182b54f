-- `Kept::lit_spot` meets its contract: smoothed after a lit frame, and the frame's own as the first.
use Rattle.spot.proofs.Steps.{later_spot, first-spot}
use Rattle.spot.proofs.Kept.lit_spot.Goals as goal

pub returns-then-self : goal.returns-then-self
returns-then-self c = later_spot _ _ c.if-self.true c.smoothed.ensures c.from-new.ensures

pub returns : goal.returns
returns c = first-spot _ _ c.if-self.false c.from-new.ensures
