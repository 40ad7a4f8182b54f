-- `window::window_sum` meets its contract. The loop's invariant: the sum is that of the rows passed, each at most 32 · 65,535.
use mathlib.Core.Path.{◌≡◌}
use mathlib.Core.List.{List}
use Prim.Native.Nat.{ℕ, ◌+◌, ◌*◌, ◌≤◌}
use Rattle.planes.specs.Planes.{plane_of}
use Rattle.window.specs.Window.{total, side}
use Rattle.window.proofs.window_sum.Given as goal

-- the sum of a row of the window
abbrev pub Row : ℕ → List ℕ → ℕ → ℕ → ℕ → ℕ
Row width plane row column i = total side (λ j. plane_of 0 width plane (row + i) (column + j))

abbrev pub invariant-loop-i : goal.invariant-loop-i
invariant-loop-i l = (l.sum ≡ total l.i (Row l.width l.plane l.row l.column)) × (l.sum ≤ l.i * (side * 65535))
