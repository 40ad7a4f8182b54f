-- `estimate::estimate_part` meets its contract: after k turns, k places are laid down.
use mathlib.Core.Path.{refl, ◌∙◌, ap}
use Prim.Native.Nat.{◌+◌, ◌*◌}
use native.Mathlib.Omega.{arith}
use Rattle.integers.proofs.Lists.{overwrite_none, overwrite_step}
use Rattle.planes.specs.Planes.{plane_of}
use Rattle.estimate.specs.Estimates.{estimate_at, estimates}
use Rattle.estimate.proofs.Parts.{part_room}
use Rattle.estimate.proofs.Places.{placed}
use Rattle.estimate.proofs.estimate_part.Goals as goal

pub loop-k-init : goal.loop-k-init
loop-k-init c = (overwrite_none _ _ _, overwrite_none _ _ _, overwrite_none _ _ _)

pub loop-k-preserved : goal.loop-k-preserved
unfolding estimate_at
loop-k-preserved c =
    let a = c.args in
    let f = a.frame.now in
    let k = c.loop-k.k in
    let v = c.loop-k.invariant in
    let at = a.r * f.shape.width + a.first in
    let room = part_room f.shape.width f.shape.height a.r a.first a.count (omega arith) (omega arith) in
    let here = placed f.shape.width f.shape.height (plane_of 0 f.shape.width f.samples.now) a.r (a.first + k) a.top f.shape.layout c.has_red_row-row.ensures c.has_red_column-column.ensures c.neighbourhood-n.ensures in (
      overwrite_step a.red.now at k (λ j. (estimates a.top f a.r (a.first + j)).red) (at + k) refl v.0 (c.bilinear_estimate.ensures ∙ ap (λ q. q.red) here) (omega arith),
      overwrite_step a.green.now at k (λ j. (estimates a.top f a.r (a.first + j)).green) (at + k) refl v.1 (c.green_at.ensures ∙ ap (λ q. q.green) here) (omega arith),
      overwrite_step a.blue.now at k (λ j. (estimates a.top f a.r (a.first + j)).blue) (at + k) refl v.2 (c.bilinear_estimate-in-loop-k.ensures ∙ ap (λ q. q.blue) here) (omega arith),
    )
