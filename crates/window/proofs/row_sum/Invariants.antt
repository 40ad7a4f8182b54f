-- `window::row_sum` meets its contract. The loop's invariant: the sum is that of the samples passed, each below 65,536.
use mathlib.Core.Path.{◌≡◌}
use mathlib.Core.List.{List}
use Prim.Native.Nat.{ℕ, ◌*◌, ◌≤◌}
use lib.ListN.{get_or}
use Rattle.window.specs.Window.{total}
use Rattle.window.proofs.row_sum.Given as goal

-- the row's samples
abbrev pub Sample : List ℕ → ℕ → ℕ
Sample row j = get_or row j 0

abbrev pub invariant-loop-sample : goal.invariant-loop-sample
invariant-loop-sample l = (l.sum ≡ total l.sample-index (Sample l.row)) × (l.sum ≤ l.sample-index * 65535)
