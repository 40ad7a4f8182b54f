-- `smoothing::smoothed` meets its contract: the code's operations are the definition's, and 0.125's bit pattern is its value.
use mathlib.Core.Path.{refl}
use lib.Ieee.{of_bits}
use Rattle.smoothing.specs.Smoothing.{smooth}
use Rattle.smoothing.proofs.smoothed.Goals as goal

pub returns : goal.returns
unfolding smooth of_bits
returns c = refl
