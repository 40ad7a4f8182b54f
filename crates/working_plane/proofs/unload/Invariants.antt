-- `working_plane::unload` meets its contract: after k turns, k numbers are unloaded.
use mathlib.Core.Path.{◌≡◌}
use Rattle.integers.specs.Numbers.{clipped}
use Rattle.integers.specs.Lists.{overwrite}
use Rattle.planes.specs.Lists.{value}
use Rattle.working_plane.proofs.unload.Given as goal

abbrev pub invariant-loop-k : goal.invariant-loop-k
invariant-loop-k l = l.plane ≡ overwrite l.initial.plane 0 l.k (λ j. clipped l.top (value l.work j))
