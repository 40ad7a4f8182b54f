-- `demosaic_c::demosaic_bring_back` meets its contract: the callee's.
use mathlib.Core.Path.{◌∙◌, ap}
use mir.Facts.{to_z-of_z as back}
use Rattle.questions.specs.Settings.{ceiling}
use Rattle.filters.specs.Bank.{brought_back}
use Rattle.demosaic_c.proofs.demosaic_bring_back.Goals as goal

pub returns : goal.returns
returns c = c.bring_back.ensures ∙ ap (brought_back ceiling) (back c.ranges.sum)
