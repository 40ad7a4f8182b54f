-- `neighbourhood::gradient` meets its contract: the sum of two sizes.
use Rattle.std.proofs.Common.{rules, arith}
use Rattle.neighbourhood.specs.Inner.{line_of}
use Rattle.neighbourhood.specs.Place.{gradient}
use Rattle.neighbourhood.proofs.Arithmetic.{small_by, size}
use Rattle.neighbourhood.proofs.Choosing.{gradient_small}
use Rattle.neighbourhood.proofs.gradient.Goals as goal

pub returns : goal.returns
unfolding gradient line_of
returns c = small_by (search rules) (gradient_small (line_of c.args.line) (omega arith) (omega arith) (size c.detail.ensures))
