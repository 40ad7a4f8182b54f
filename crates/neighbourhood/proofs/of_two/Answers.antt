-- `neighbourhood::of_two` meets its contract.
use Prim.Native.Nat.{◌+◌}
use native.Mathlib.Omega.{arith}
use Rattle.neighbourhood.specs.Place.{of_two}
use Rattle.neighbourhood.proofs.Arithmetic.{rounded_pos}
use Rattle.neighbourhood.proofs.of_two.Goals as goal

pub returns : goal.returns
unfolding of_two
returns c = omega (arith, rounded_pos 2 (c.args.a + c.args.b))
