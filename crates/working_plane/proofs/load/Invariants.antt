-- `working_plane::load` meets its contract: after k turns, k samples are laid down.
use mathlib.Core.Path.{◌≡◌}
use Rattle.integers.specs.Lists.{overwrite}
use Rattle.planes.specs.Lists.{sample}
use Rattle.working_plane.proofs.load.Given as goal

abbrev pub invariant-loop-k : goal.invariant-loop-k
invariant-loop-k l = l.work ≡ overwrite l.initial.work 0 l.k (sample l.plane)
