-- `GivenBands::join_rows` meets its contract: after r turns, r rows of the sums are laid down.
use mathlib.Core.Path.{◌≡◌}
use Rattle.planes.proofs.Planes.{rows_laid}
use Rattle.filters.specs.Bank.{join}
use Rattle.bank.specs.Planes.{bands_of}
use Rattle.bank.specs.Calls.{bands}
use Rattle.bank.proofs.GivenBands.join_rows.Given as goal

abbrev pub invariant-loop-r : goal.invariant-loop-r
invariant-loop-r l = l.sums ≡ rows_laid l.initial.sums l.self.width l.r (join 1 l.self.width l.self.height (bands_of l.self.width (bands l.self.band1.now l.self.band2.now l.self.band3.now l.self.band4.now)))
