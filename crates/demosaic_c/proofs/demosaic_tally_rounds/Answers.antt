-- `demosaic_c::demosaic_tally_rounds` meets its contract: that of the count.
use Rattle.demosaic_c.proofs.demosaic_tally_rounds.Goals as goal

pub returns : goal.returns
returns c = c.rounds_after.ensures
