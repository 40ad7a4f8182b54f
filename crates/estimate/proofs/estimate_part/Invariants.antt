-- `estimate::estimate_part` meets its contract: after k turns, k places are laid down.
use mathlib.Core.Path.{◌≡◌}
use Prim.Native.Nat.{ℕ, ◌+◌, ◌*◌}
use Rattle.integers.specs.Lists.{overwrite}
use Rattle.estimate.specs.Estimates.{estimates}
use Rattle.estimate.proofs.estimate_part.Given as goal

abbrev pub invariant-loop-k : goal.invariant-loop-k
invariant-loop-k l =
    let at = l.r * l.frame.shape.width + l.first in
    let part = λ (j : ℕ). estimates l.top l.frame l.r (l.first + j) in
    (l.red ≡ overwrite l.initial.red at l.k (λ j. (part j).red)) × (l.green ≡ overwrite l.initial.green at l.k (λ j. (part j).green)) × (l.blue ≡ overwrite l.initial.blue at l.k (λ j. (part j).blue))
