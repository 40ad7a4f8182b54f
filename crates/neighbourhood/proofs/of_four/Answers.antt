-- `neighbourhood::of_four` meets its contract.
use Prim.Native.Nat.{◌+◌}
use native.Mathlib.Omega.{arith}
use Rattle.neighbourhood.specs.Place.{of_four}
use Rattle.neighbourhood.proofs.Arithmetic.{rounded_pos}
use Rattle.neighbourhood.proofs.of_four.Goals as goal

pub returns : goal.returns
unfolding of_four
returns c = let a = c.args in omega (arith, rounded_pos 4 (a.a + a.b + a.c + a.d))
