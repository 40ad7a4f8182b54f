-- `neighbourhood::detail` meets its contract: the sum is the definition's.
use Rattle.std.proofs.Common.{rules, arith}
use Rattle.neighbourhood.specs.Inner.{line_of}
use Rattle.neighbourhood.proofs.Arithmetic.{small_by, size}
use Rattle.neighbourhood.proofs.Choosing.{detail_small}
use Rattle.neighbourhood.proofs.detail.Goals as goal

pub returns : goal.returns
unfolding line_of
returns c = small_by (search rules) (detail_small _ (size c.two_away.ensures) (omega arith))
