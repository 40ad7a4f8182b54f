-- `Turn::fill_each` meets its contract: after i turns, i rows are laid down.
use mathlib.Core.Path.{◌≡◌}
use Prim.Native.Nat.{◌*◌, ◌/◌, ◌%◌}
use Rattle.integers.specs.Lists.{overwrite}
use Rattle.turns.specs.Filling.{source_plane}
use Rattle.turns.proofs.Turn.fill_each.Given as goal

abbrev pub invariant-loop-i : goal.invariant-loop-i
invariant-loop-i l = l.out ≡ overwrite l.initial.out 0 (l.i * l.columns) (λ k. source_plane l.samples l.left_right l.top_bottom l.columns l.rows l.row_step l.column_step (k / l.columns) (k % l.columns))
