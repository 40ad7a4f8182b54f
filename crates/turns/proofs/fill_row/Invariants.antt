-- `turns::fill_row` meets its contract: after j turns, j samples of the row are laid down.
use mathlib.Core.Path.{◌≡◌}
use Rattle.integers.specs.Lists.{overwrite}
use Rattle.turns.specs.Filling.{source_row}
use Rattle.turns.proofs.fill_row.Given as goal

abbrev pub invariant-loop-j : goal.invariant-loop-j
invariant-loop-j l = l.row ≡ overwrite l.initial.row 0 l.j (source_row l.samples l.mirror l.n l.from l.step)
