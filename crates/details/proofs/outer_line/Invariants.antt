-- `details::outer_line` meets its contract: after k turns, k places are laid down.
use mathlib.Core.Path.{◌≡◌}
use Rattle.integers.specs.Lists.{overwrite}
use Rattle.filters.specs.Bank.{high_split}
use Rattle.details.specs.Details.{outer}
use Rattle.details.proofs.outer_line.Given as goal

abbrev pub invariant-loop-k : goal.invariant-loop-k
invariant-loop-k l = (l.out ≡ overwrite l.initial.out l.at l.k (outer high_split l.limit l.d l.line))
