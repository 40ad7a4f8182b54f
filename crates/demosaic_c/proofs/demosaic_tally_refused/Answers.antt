-- `demosaic_c::demosaic_tally_refused` meets its contract: that of the count.
use Rattle.demosaic_c.proofs.demosaic_tally_refused.Goals as goal

pub returns : goal.returns
returns c = c.refused_after.ensures
