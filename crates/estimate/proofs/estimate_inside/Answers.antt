-- `estimate::estimate_inside` meets its contract: after k turns, k places are laid down.
use mathlib.Core.Path.{refl}
use Prim.Native.Nat.{◌+◌, ◌*◌}
use native.Mathlib.Omega.{arith}
use Rattle.integers.proofs.Lists.{overwrite_none, overwrite_step}
use Rattle.neighbourhood.proofs.Neighbours.{inner_from}
use Rattle.estimate.proofs.Parts.{part_room}
use Rattle.estimate.proofs.estimate_inside.Goals as goal

pub loop-k-init : goal.loop-k-init
loop-k-init g c = λ f told. overwrite_none _ _ _

pub inside-n-requires : goal.inside-n-requires
inside-n-requires g c = (c.requires.part.0, inner_from c.args.frame.now.shape.width (c.args.first + c.loop-k.k) (omega arith) (omega arith))

pub loop-k-preserved : goal.loop-k-preserved
loop-k-preserved g c = λ f told.
    let a = c.args in
    let w = a.frame.now.shape.width in
    let k = c.loop-k.k in
    let at = a.r * w + a.first in
    let room = part_room w a.frame.now.shape.height a.r a.first a.count (omega arith) (omega arith) in
    let own = told k _ c.loop-k-test.true (rw (c.inside-n.ensures, c.has_red_column.ensures) at c.estimated.ensures) in
    overwrite_step a.plane.now at k f (at + k) refl (c.loop-k.invariant f told) own (omega arith)
