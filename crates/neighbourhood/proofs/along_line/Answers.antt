-- `neighbourhood::along_line` meets its contract: the sum is half of the definition's.
use Rattle.std.proofs.Common.{rules}
use Rattle.neighbourhood.specs.Inner.{half_along}
use Rattle.neighbourhood.proofs.Arithmetic.{small_by, size}
use Rattle.neighbourhood.proofs.Choosing.{line_small}
use Rattle.neighbourhood.proofs.along_line.Goals as goal

pub returns : goal.returns
unfolding half_along
returns c = small_by (search rules) (line_small _ (size c.greens.ensures) (size c.detail.ensures))
