-- `demosaic_c::demosaic_packet_write` meets its contract: the writer's, and its count.
use Rattle.demosaic_c.proofs.Wide.{write_no, write_yes}
use Rattle.demosaic_c.proofs.demosaic_packet_write.Goals as goal

pub returns-in-Ok : goal.returns-in-Ok
returns-in-Ok c = write_yes _ _ _ _ c.cut_shape.ensures _ _ c.cut_settings.ensures _ _ c.in-Ok.ensures

pub returns-in-Err : goal.returns-in-Err
returns-in-Err c = write_no _ _ _ _ c.cut_shape.ensures _ _ c.cut_settings.ensures _ _ c.in-Err.ensures c.number.ensures
