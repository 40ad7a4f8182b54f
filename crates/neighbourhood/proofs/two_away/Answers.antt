-- `neighbourhood::two_away` meets its contract.
use Rattle.std.proofs.Common.{rules, arith}
use Rattle.neighbourhood.specs.Inner.{line_of}
use Rattle.neighbourhood.specs.Place.{two_away}
use Rattle.neighbourhood.proofs.Arithmetic.{small_by}
use Rattle.neighbourhood.proofs.two_away.Goals as goal

pub returns : goal.returns
unfolding two_away line_of
returns c = small_by (search rules) (omega arith)
