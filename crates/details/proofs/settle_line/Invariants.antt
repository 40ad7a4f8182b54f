-- `details::settle_line` meets its contract: after k turns, k places are laid down.
use mathlib.Core.Path.{◌≡◌}
use Prim.Native.Nat.{◌+◌}
use Rattle.integers.specs.Lists.{overwrite}
use Rattle.planes.specs.Lists.{value}
use Rattle.details.specs.Details.{crossed, settled}
use Rattle.details.proofs.settle_line.Given as goal

abbrev pub invariant-loop-k : goal.invariant-loop-k
invariant-loop-k l = l.own ≡ overwrite l.initial.own l.at l.k (λ i. settled l.range.least l.range.most (value l.initial.own (l.at + i)) (crossed l.apart l.together l.starts i))
