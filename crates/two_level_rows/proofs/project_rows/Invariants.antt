-- `two_level_rows::project_rows` meets its contract: each step takes every stage one row further.
use Rattle.two_level_rows.proofs.Sweep.{Swept}
use Rattle.two_level_rows.proofs.project_rows.Given as goal

abbrev pub invariant-loop-t : goal.invariant-loop-t
invariant-loop-t l = Swept (record { given = l.given; second = l.second_limit; least = l.least; most = l.most; own = l.initial.own; guide = l.guide }) l.own (record { differences = l.differences; band = l.band; apart1 = l.apart1; together1 = l.together1; apart2 = l.apart2; together2 = l.together2; apart = l.apart; together = l.together; rests = l.rests }) l.t
