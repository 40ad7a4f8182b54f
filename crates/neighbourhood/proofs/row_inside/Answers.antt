-- `neighbourhood::row_inside` meets its contract.
use Rattle.neighbourhood.proofs.Neighbours.{five_from}
use Rattle.neighbourhood.proofs.row_inside.Goals as goal

pub returns : goal.returns
returns c = five_from c.args.mosaic.now c.args.from
