-- `estimate::estimate_rows` meets its contract: after r turns, r rows of each plane are laid down.
use mathlib.Core.Path.{◌≡◌}
use Rattle.planes.proofs.Planes.{rows_laid}
use Rattle.estimate.specs.Estimates.{estimates}
use Rattle.estimate.proofs.estimate_rows.Given as goal

abbrev pub invariant-loop-r : goal.invariant-loop-r
invariant-loop-r l = (l.red ≡ rows_laid l.initial.red l.frame.shape.width l.r (λ i j. (estimates l.top l.frame i j).red)) × (l.green ≡ rows_laid l.initial.green l.frame.shape.width l.r (λ i j. (estimates l.top l.frame i j).green)) × (l.blue ≡ rows_laid l.initial.blue l.frame.shape.width l.r (λ i j. (estimates l.top l.frame i j).blue))
