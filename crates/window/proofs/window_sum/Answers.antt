-- `window::window_sum` meets its contract. The loop's invariant: the sum is that of the rows passed, each at most 32 · 65,535.
use mathlib.Core.Path.{ap, ◌∙◌}
use Prim.Native.Nat.{ℕ, ◌+◌, ◌*◌}
use native.Mathlib.Nat.{add_assoc}
use native.Mathlib.Omega.{arith}
use lib.ListN.{get_or}
use Rattle.std.proofs.lemmas.List.{get_or-take, get_or-drop}
use Rattle.planes.specs.Planes.{plane_of}
use Rattle.window.specs.Window.{side}
use Rattle.window.proofs.Totals.{total_none, total_more, total_same}
use Rattle.window.proofs.window_sum.Invariants.{Row}
use Rattle.window.proofs.window_sum.Goals as goal

pub loop-i-init : goal.loop-i-init
loop-i-init c = (total_none _, omega arith)

pub loop-i-preserved : goal.loop-i-preserved
unfolding plane_of
loop-i-preserved c =
    let l = c.loop-i in
    let a = c.args in
    let from = (a.row + l.i) * a.width in (
      total_more l.i (Row a.width a.plane.now a.row a.column) l.invariant.0
          (c.row_sum-sum.ensures.sum ∙ total_same side _ _ (λ j h. get_or-take _ _ j 0 (omega arith) ∙ get_or-drop (from + a.column) a.plane.now j 0 ∙ ap (λ (k : ℕ). get_or a.plane.now k 0) (add_assoc from a.column j))),
      omega (arith, l.invariant.1, c.row_sum-sum.ensures.small),
    )
