-- `merging::settle_line` meets its contract: after k turns, k places are laid down.
use mathlib.Core.Path.{◌≡◌}
use Rattle.integers.specs.Lists.{overwrite}
use Rattle.merging.specs.Merging.{settled_place}
use Rattle.merging.proofs.settle_line.Given as goal

abbrev pub invariant-loop-k : goal.invariant-loop-k
invariant-loop-k l = l.own ≡ overwrite l.initial.own l.at l.k (settled_place l.least l.most l.initial.own l.at l.apart l.together l.starts l.small)
