-- `demosaic_c::demosaic_update` meets its contract: the update call's.
use Rattle.demosaic_c.proofs.Wide.{update_returned}
use Rattle.demosaic_c.proofs.demosaic_update.Goals as goal

pub returns : goal.returns
returns c = update_returned _ _ _ _ c.cut_shape-given.ensures _ _ c.update.ensures c.number.ensures
