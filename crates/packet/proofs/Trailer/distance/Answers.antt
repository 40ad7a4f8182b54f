-- `Trailer::distance` meets its contract.
use Rattle.packet.proofs.Stores.{distance_is}
use Rattle.packet.proofs.Trailer.distance.Goals as goal

pub returns : goal.returns
returns c = distance_is _ _ c.place.ensures _ c.four.ensures
