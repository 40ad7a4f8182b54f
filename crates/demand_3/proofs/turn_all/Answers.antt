-- `demand_3::turn_all` meets its contract.
use Rattle.std.proofs.Common.{arith, refl}
use Rattle.demand_3.specs.Alike.{stands}
use Rattle.demand_3.proofs.Moving.{all_step, all_done}
use Rattle.demand_3.proofs.turn_all.Goals as goal

pub loop-turn-init : goal.loop-turn-init
loop-turn-init c = refl

pub loop-turn-preserved : goal.loop-turn-preserved
loop-turn-preserved c =
    all_step c.args.turns.now c.loop-turn.turn-index (omega arith) (stands c.loop-turn.at c.loop-turn.first c.loop-turn.second) c.turn_once-at.ensures c.loop-turn.invariant

pub returns : goal.returns
returns c = all_done c.args.turns.now c.loop-turn.turn-index (omega arith) c.loop-turn.invariant
