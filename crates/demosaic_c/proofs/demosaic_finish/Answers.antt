-- `demosaic_c::demosaic_finish` meets its contract: the finishing call's, without a tally.
use Rattle.demosaic_c.proofs.Wide.{finish_returned}
use Rattle.demosaic_c.proofs.demosaic_finish.Goals as goal

pub returns : goal.returns
returns c = finish_returned _ _ _ _ c.cut_shape-given.ensures _ _ c.cut_settings-settings.ensures _ c.finish_frame.ensures c.number.ensures
