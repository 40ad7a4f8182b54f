-- `demosaic_c::demosaic_estimate` meets its contract: the estimate call's.
use Rattle.demosaic_c.proofs.Wide.{estimate_returned}
use Rattle.demosaic_c.proofs.demosaic_estimate.Goals as goal

pub returns : goal.returns
returns c = estimate_returned _ _ _ _ c.cut_shape-given.ensures _ c.estimate.ensures c.number.ensures
