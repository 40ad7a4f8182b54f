-- `demosaic_c::demosaic_tally_finished` meets its contract: that of the count.
use Rattle.demosaic_c.proofs.demosaic_tally_finished.Goals as goal

pub returns : goal.returns
returns c = c.finished_after.ensures
