-- `details::difference_line` meets its contract: after k turns, k places are laid down.
use mathlib.Core.Path.{◌≡◌}
use Rattle.integers.specs.Lists.{overwrite}
use Rattle.details.specs.Details.{difference_line}
use Rattle.details.proofs.difference_line.Given as goal

abbrev pub invariant-loop-k : goal.invariant-loop-k
invariant-loop-k l = (l.out ≡ overwrite l.initial.out l.to l.k (difference_line l.own l.at l.guide l.from l.step))
