-- `demand_3::turn_all` meets its contract.
use Rattle.std.proofs.Common.{◌≡◌, drop}
use Rattle.demand_3.specs.Between.{turned_all}
use Rattle.demand_3.specs.Alike.{stands}
use Rattle.demand_3.proofs.turn_all.Given as goal

abbrev pub invariant-loop-turn : goal.invariant-loop-turn
invariant-loop-turn l = turned_all (drop l.turn-index l.turns) (stands l.at l.first l.second) ≡ turned_all l.turns (stands l.initial.at l.initial.first l.initial.second)
