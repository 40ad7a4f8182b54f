-- `packet::packet_samples` meets its contract.
use mathlib.Core.Path.{ap, ◌∙◌}
use Rattle.packet.specs.Packet.{sample_part}
use Rattle.packet.proofs.Stores.{part_no, part_yes}
use Rattle.packet.proofs.packet_samples.Goals as goal

pub returns-in-Ok : goal.returns-in-Ok
returns-in-Ok c = part_yes c.args.store.now c.in-Ok.ensures.number _ (c.samples.ensures ∙ ap sample_part c.in-Ok.ensures.of_store)

pub returns-in-Err : goal.returns-in-Err
returns-in-Err c = part_no c.args.store.now _ c.in-Err.ensures.number
