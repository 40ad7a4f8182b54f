-- `demosaic_c::demosaic_rounds` meets its contract: the rounds call's.
use Rattle.demosaic_c.proofs.Wide.{rounds_returned}
use Rattle.demosaic_c.proofs.demosaic_rounds.Goals as goal

pub returns : goal.returns
returns c = rounds_returned _ _ _ _ c.cut_shape-given.ensures _ _ c.cut_settings-settings.ensures _ c.rounds.ensures c.number.ensures
