-- `update::gather_row` meets its contract: after k turns, k samples are laid down.
use mathlib.Core.Path.{◌≡◌}
use Prim.Native.Nat.{◌+◌, ◌*◌}
use Rattle.integers.specs.Lists.{overwrite}
use Rattle.planes.specs.Lists.{sample}
use Rattle.update.proofs.gather_row.Given as goal

abbrev pub invariant-loop-k : goal.invariant-loop-k
invariant-loop-k l = l.row ≡ overwrite l.initial.row 0 l.k (λ j. sample l.green (l.from + 2 * j))
