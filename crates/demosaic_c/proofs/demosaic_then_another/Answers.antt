-- `demosaic_c::demosaic_then_another` meets its contract: then-another's.
use Rattle.demosaic_c.proofs.Returns.{single_no, single_yes, put}
use Rattle.demosaic_c.proofs.demosaic_then_another.Goals as goal

pub returns-in-Ok : goal.returns-in-Ok
returns-in-Ok c = put c.from.ensures (single_yes _ _ c.byte.ensures c.byte-2.ensures _ c.in-Ok.ensures)

pub returns-in-Err : goal.returns-in-Err
returns-in-Err c = single_no _ _ c.byte.ensures c.byte-2.ensures _ c.in-Err.ensures c.number.ensures
