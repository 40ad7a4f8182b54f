-- `working_plane::observe_row` meets its contract: after k turns, k samples are put.
use mathlib.Core.Path.{◌≡◌}
use Prim.Native.Nat.{◌+◌, ◌*◌}
use Rattle.planes.specs.Lists.{sample, put}
use Rattle.working_plane.proofs.observe_row.Given as goal

abbrev pub invariant-loop-k : goal.invariant-loop-k
invariant-loop-k l = l.work ≡ put l.initial.work l.k (λ j. l.from + 2 * j) (λ j. sample l.mosaic (l.from + 2 * j))
