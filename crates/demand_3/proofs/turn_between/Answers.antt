-- `demand_3::turn_between` meets its contract.
use Rattle.demand_3.proofs.Moving.{moved_yes, moved_no}
use Rattle.demand_3.proofs.turn_between.Goals as goal

pub returns-in-Ok : goal.returns-in-Ok
returns-in-Ok c = moved_yes c.args.turn.number c.args.at c.args.from.now c.args.to.now c.turn_samples.ensures c.in-Ok.is

pub returns-in-Err : goal.returns-in-Err
returns-in-Err c = moved_no c.args.turn.number c.args.at c.args.from.now c.args.to.now c.turn_samples.ensures c.in-Err.is
