-- `estimate::estimate_inside` meets its contract: after k turns, k places are laid down, for every function that the estimates are.
use mathlib.Core.Path.{◌≡◌}
use Prim.Native.Nat.{ℕ, ◌+◌, ◌*◌, ◌<◌}
use Rattle.integers.specs.Lists.{overwrite}
use Rattle.planes.specs.Planes.{plane_of}
use Rattle.planes.specs.Layout.{on_red_column}
use Rattle.neighbourhood.specs.Place.{neighbourhood}
use Rattle.estimate.proofs.estimate_inside.Given as goal

abbrev pub invariant-loop-k : goal.invariant-loop-k
invariant-loop-k g l =
    let s = l.frame in
    (f : ℕ → ℕ) → ((k x : ℕ) → k < l.count → goal.F-post g l.estimated (neighbourhood s.shape.width s.shape.height (plane_of 0 s.shape.width s.samples.now) l.r (l.first + k)) (on_red_column s.shape.layout (l.first + k)) x → x ≡ f k)
    → l.plane ≡ overwrite l.initial.plane (l.r * s.shape.width + l.first) l.k f
