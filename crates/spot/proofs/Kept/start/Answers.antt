-- `Kept::start` meets its contract: 0.0 is the float of the sum 0.
use mathlib.Core.Path.{refl}
use lib.Ieee.{of_bits, of_int}
use Rattle.spot.proofs.Kept.start.Goals as goal

pub returns : goal.returns
unfolding of_bits of_int
returns c = refl
