-- `neighbourhood::is_inner` meets its contract.
use mathlib.Core.Path.{◌∙◌}
use Prim.Native.Nat.{◌<◌}
use borrow.Author.Tests.{lt-leb}
use native.Mathlib.Omega.{arith}
use Rattle.neighbourhood.proofs.Neighbours.{inner_no, inner_yes}
use Rattle.neighbourhood.proofs.is_inner.Goals as goal

pub returns-then-i-ge2 : goal.returns-then-i-ge2
returns-then-i-ge2 c = inner_yes c.args.n c.args.i c.if-i-ge2.true

pub returns-else-i-ge2 : goal.returns-else-i-ge2
returns-else-i-ge2 c = let near : c.args.i < 2 = omega arith in lt-leb 2 c.args.i near ∙ inner_no c.args.n c.args.i near
