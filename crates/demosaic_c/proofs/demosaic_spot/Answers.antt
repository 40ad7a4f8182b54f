-- `demosaic_c::demosaic_spot` meets its contract: that of the call in crate `spot`, the answer taken apart.
use Rattle.std.proofs.Common.{sym, ap}
use Rattle.demosaic_c.specs.Pointers.{SpotNumbers, spot_numbers}
use Rattle.demosaic_c.proofs.Returns.{spot_no, spot_yes, spot_put, put}
use Rattle.demosaic_c.proofs.demosaic_spot.Goals as goal
use Rattle.demosaic_c.proofs.demosaic_spot.Goals.{Start}

abbrev Before : goal.Start → SpotNumbers
Before t = let a = t.args in spot_numbers a.spot_red.now a.spot_green.now a.spot_blue.now a.lit.now a.reading.now

pub returns-in-Ok-Starting : goal.returns-in-Ok-Starting
returns-in-Ok-Starting c = put (ap (spot_put (Before (goal.at.returns-in-Ok-Starting c).Start)) (sym c.in-Ok-Starting.field-0-is)) (spot_yes _ _ _ _ _ _ c.in-Ok-Starting.ensures)

pub returns-in-Ok-Dark : goal.returns-in-Ok-Dark
returns-in-Ok-Dark c = put (ap (spot_put (Before (goal.at.returns-in-Ok-Dark c).Start)) (sym c.in-Ok-Dark.field-0-is)) (spot_yes _ _ _ _ _ _ c.in-Ok-Dark.ensures)

pub returns-in-Ok-Steady : goal.returns-in-Ok-Steady
returns-in-Ok-Steady c = put (ap (spot_put (Before (goal.at.returns-in-Ok-Steady c).Start)) (sym c.in-Ok-Steady.field-0-is)) (spot_yes _ _ _ _ _ _ c.in-Ok-Steady.ensures)

pub returns-in-Err : goal.returns-in-Err
returns-in-Err c = spot_no _ _ _ _ _ _ c.in-Err.ensures c.number.ensures
