-- `spot::read_spot` meets its contract: one check, then the sums and a step.
use Rattle.std.proofs.Common.{rules}
use Rattle.spot.proofs.Calls.{rooms, spot_refuses, spot_accepts}
use Rattle.spot.proofs.read_spot.Goals as goal

pub returns-in_err-ask_spot : goal.returns-in_err-ask_spot
returns-in_err-ask_spot c = spot_refuses _ _ (search rules) c.in_err-ask_spot.ensures

pub plane_sums-requires : goal.plane_sums-requires
plane_sums-requires c = rooms _ _ _ _ _ c.in_ok-ask_spot.ensures

pub returns : goal.returns
returns c = spot_accepts _ c.in_ok-ask_spot.ensures c.plane_sums.ensures c.next.ensures.reading c.next.ensures.kept
