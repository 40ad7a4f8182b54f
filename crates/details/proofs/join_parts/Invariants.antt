-- `details::join_parts` meets its contract: after k turns, k places of both are laid down.
use mathlib.Core.Path.{◌≡◌}
use Rattle.integers.specs.Lists.{overwrite}
use Rattle.details.specs.Details.{joined_apart, joined_together}
use Rattle.details.proofs.join_parts.Given as goal

abbrev pub invariant-loop-k : goal.invariant-loop-k
invariant-loop-k l = (l.apart ≡ overwrite l.initial.apart l.at l.k (joined_apart l.d l.parts l.minus l.plus)) × (l.together ≡ overwrite l.initial.together l.at l.k (joined_together l.d l.parts l.minus l.plus))
