-- `update::gather` meets its contract: after i turns, i rows are laid down.
use mathlib.Core.Path.{◌≡◌}
use Prim.Native.Nat.{◌+◌, ◌*◌, ◌/◌, ◌%◌}
use Rattle.integers.specs.Lists.{overwrite}
use Rattle.planes.specs.Lists.{sample}
use Rattle.update.proofs.gather.Given as goal

abbrev pub invariant-loop-i : goal.invariant-loop-i
invariant-loop-i l = l.work ≡ overwrite l.initial.work 0 (l.i * l.places.columns) (λ k. sample l.green (l.places.from + k / l.places.columns * l.places.down + 2 * (k % l.places.columns)))
