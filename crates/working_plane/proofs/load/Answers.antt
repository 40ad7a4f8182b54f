-- `working_plane::load` meets its contract: after k turns, k samples are laid down.
use native.Mathlib.Omega.{arith}
use mir.Syntax.{w32}
use Rattle.integers.proofs.Lists.{overwrite_none, overwrite_step}
use Rattle.integers.proofs.Bounds.{read_is}
use Rattle.planes.specs.Lists.{sample}
use Rattle.working_plane.proofs.load.Goals as goal

pub loop-k-init : goal.loop-k-init
loop-k-init c = overwrite_none c.args.work.now 0 (sample c.args.plane.now)

pub loop-k-preserved : goal.loop-k-preserved
loop-k-preserved c =
    let l = c.loop-k in
    overwrite_step c.args.work.now 0 l.k (sample c.args.plane.now) l.k (omega arith) l.invariant (unfold sample in read_is w32 c.from.type_inv c.from.ensures) (omega arith)
