-- `demosaic_c::demosaic_packet_refusal` meets its contract: the packet's refusal number.
use Rattle.demosaic_c.proofs.demosaic_packet_refusal.Goals as goal

pub returns : goal.returns
returns c = c.packet_refusal.ensures
