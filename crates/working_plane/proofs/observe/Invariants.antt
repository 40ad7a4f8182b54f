-- `working_plane::observe` meets its contract: after i turns, i rows are put.
use mathlib.Core.Path.{◌≡◌}
use Prim.Native.Nat.{◌*◌}
use Rattle.planes.specs.Places.{place}
use Rattle.planes.specs.Lists.{sample, put}
use Rattle.working_plane.proofs.observe.Given as goal

abbrev pub invariant-loop-i : goal.invariant-loop-i
invariant-loop-i l = l.work ≡ put l.initial.work (l.i * l.places.columns) (place l.places.from l.places.down l.places.columns) (λ k. sample l.mosaic (place l.places.from l.places.down l.places.columns k))
