-- `sweep::project_rows` meets its contract: each step takes every stage one row further.
use Rattle.sweep.proofs.Sweep.{Swept}
use Rattle.sweep.proofs.project_rows.Given as goal

abbrev pub invariant-loop-t : goal.invariant-loop-t
invariant-loop-t l = Swept l.given l.range.least l.range.most l.initial.own l.guide l.own l.kept.differences l.kept.apart l.kept.together l.t
