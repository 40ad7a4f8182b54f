-- `lines::join_low` meets its contract: after i turns, i places are laid down.
use mathlib.Core.Path.{◌≡◌}
use Rattle.integers.specs.Lists.{overwrite}
use Rattle.filters.specs.Bank.{low_join}
use Rattle.lines.specs.Lines.{five}
use Rattle.lines.proofs.join_low.Given as goal

abbrev pub invariant-loop-i : goal.invariant-loop-i
invariant-loop-i l = l.out ≡ overwrite l.initial.out l.at l.i (five low_join l.source l.starts)
