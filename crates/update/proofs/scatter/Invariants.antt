-- `update::scatter` meets its contract: after i turns, i rows are put.
use mathlib.Core.Path.{◌≡◌}
use Prim.Native.Nat.{◌*◌}
use lib.IntN.{nat_abs}
use Rattle.planes.specs.Lists.{value, put}
use Rattle.planes.specs.Places.{place}
use Rattle.update.proofs.scatter.Given as goal

abbrev pub invariant-loop-i : goal.invariant-loop-i
invariant-loop-i l = l.green ≡ put l.initial.green (l.i * l.places.columns) (place l.places.from l.places.down l.places.columns) (λ k. nat_abs (value l.work k))
