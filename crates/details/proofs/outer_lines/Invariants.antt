-- `details::outer_lines` meets its contract: after k turns, k places of both are laid down.
use mathlib.Core.Path.{◌≡◌}
use Rattle.integers.specs.Lists.{overwrite}
use Rattle.details.specs.Details.{outer_minus, outer_plus}
use Rattle.details.proofs.outer_lines.Given as goal

abbrev pub invariant-loop-k : goal.invariant-loop-k
invariant-loop-k l = (l.minus ≡ overwrite l.initial.minus l.at l.k (outer_minus l.limit l.d l.line)) × (l.plus ≡ overwrite l.initial.plus l.at l.k (outer_plus l.limit l.d l.line))
