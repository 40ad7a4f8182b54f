-- `update::scatter_row` meets its contract: after k turns, k numbers are put.
use mathlib.Core.Path.{◌≡◌}
use Prim.Native.Nat.{◌+◌, ◌*◌}
use lib.IntN.{nat_abs}
use Rattle.planes.specs.Lists.{value, put}
use Rattle.update.proofs.scatter_row.Given as goal

abbrev pub invariant-loop-k : goal.invariant-loop-k
invariant-loop-k l = l.green ≡ put l.initial.green l.k (λ j. l.from + 2 * j) (λ j. nat_abs (value l.work (l.at + j)))
