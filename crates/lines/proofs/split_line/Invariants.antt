-- `lines::split_line` meets its contract: after i turns, i places of both are laid down.
use mathlib.Core.Path.{◌≡◌}
use Rattle.integers.specs.Lists.{overwrite}
use Rattle.filters.specs.Bank.{low_split, high_split}
use Rattle.lines.specs.Lines.{three}
use Rattle.lines.proofs.split_line.Given as goal

abbrev pub invariant-loop-i : goal.invariant-loop-i
invariant-loop-i l = (l.low ≡ overwrite l.initial.low l.at l.i (three low_split l.source l.a l.b l.c)) × (l.high ≡ overwrite l.initial.high l.at l.i (three high_split l.source l.a l.b l.c))
