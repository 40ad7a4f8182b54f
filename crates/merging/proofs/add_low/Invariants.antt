-- `merging::add_low` meets its contract: after k turns, k places of both are laid down.
use mathlib.Core.Path.{◌≡◌}
use Rattle.integers.specs.Lists.{overwrite}
use Rattle.merging.specs.Merging.{low_away, low_added}
use Rattle.merging.proofs.add_low.Given as goal

abbrev pub invariant-loop-k : goal.invariant-loop-k
invariant-loop-k l = (l.apart ≡ overwrite l.initial.apart l.at l.k (low_away l.apart1 l.from l.line)) × (l.together ≡ overwrite l.initial.together l.at l.k (low_added l.together1 l.from l.line))
