-- `demand_3::turn_once` meets its contract.
use Rattle.demand_3.proofs.Moving.{once_second, once_first}
use Rattle.demand_3.proofs.turn_once.Goals as goal

pub returns-then-at : goal.returns-then-at
returns-then-at c =
    let a = c.args in
    once_second a.turn.number a.at _ a.first.now a.second.now _ c.if-at.true c.turn_between.ensures

pub returns : goal.returns
returns c =
    let a = c.args in
    once_first a.turn.number a.at _ a.first.now a.second.now _ c.if-at.false c.turn_between-2.ensures
