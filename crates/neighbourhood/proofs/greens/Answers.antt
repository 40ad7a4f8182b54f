-- `neighbourhood::greens` meets its contract.
use Rattle.std.proofs.Common.{rules, arith}
use Rattle.neighbourhood.specs.Inner.{line_of}
use Rattle.neighbourhood.specs.Place.{greens}
use Rattle.neighbourhood.proofs.Arithmetic.{small_by}
use Rattle.neighbourhood.proofs.greens.Goals as goal

pub returns : goal.returns
unfolding greens line_of
returns c = small_by (search rules) (omega arith)
