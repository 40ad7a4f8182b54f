-- `working_plane::observe_row` meets its contract: after k turns, k samples are put.
use mathlib.Core.Path.{refl}
use Prim.Native.Nat.{ℕ, ◌+◌, ◌*◌}
use lib.IntN.{ℤ}
use mir.Syntax.{w32}
use Rattle.integers.proofs.Bounds.{read_is}
use Rattle.planes.specs.Lists.{sample}
use Rattle.planes.proofs.Places.{put_none, put_step}
use Rattle.working_plane.proofs.observe_row.Goals as goal
use Rattle.working_plane.proofs.observe_row.Goals.{Start}

-- where it is put, and what
abbrev At : goal.Start → ℕ → ℕ
At s = λ j. s.args.from + 2 * j

abbrev Row : goal.Start → ℕ → ℤ
Row s = λ j. sample s.args.mosaic.now (s.args.from + 2 * j)

pub loop-k-init : goal.loop-k-init
loop-k-init c = let s = (goal.at.loop-k-init c).Start in put_none c.args.work.now (At s) (Row s)

pub loop-k-preserved : goal.loop-k-preserved
loop-k-preserved c =
    let s = (goal.at.loop-k-preserved c).Start in
    let l = c.loop-k in
    put_step c.args.work.now l.k (At s) (Row s) (c.args.from + 2 * l.k) refl l.invariant (unfold sample in read_is w32 c.from.type_inv c.from.ensures)
