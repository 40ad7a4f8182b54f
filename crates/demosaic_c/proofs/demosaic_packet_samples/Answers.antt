-- `demosaic_c::demosaic_packet_samples` meets its contract: the mosaic reader's.
use Rattle.std.proofs.Common.{refl}
use Rattle.questions.proofs.Answering.{to_number}
use Rattle.demosaic_c.proofs.demosaic_packet_samples.Goals as goal

pub returns-in-Ok : goal.returns-in-Ok
returns-in-Ok c = to_number c.in-Ok.ensures refl

pub returns-in-Err : goal.returns-in-Err
returns-in-Err c = to_number c.in-Err.ensures c.number.ensures
