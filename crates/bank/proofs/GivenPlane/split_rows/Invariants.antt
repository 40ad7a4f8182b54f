-- `GivenPlane::split_rows` meets its contract: after r turns, r rows of each band are laid down.
use mathlib.Core.Path.{◌≡◌}
use Rattle.planes.proofs.Planes.{rows_laid}
use Rattle.filters.specs.Bank.{split}
use Rattle.bank.specs.Planes.{plane}
use Rattle.bank.proofs.GivenPlane.split_rows.Given as goal

abbrev pub invariant-loop-r : goal.invariant-loop-r
invariant-loop-r l = (l.band1 ≡ rows_laid l.initial.band1 l.self.width l.r (λ i j. (split 1 l.self.width l.self.height (plane l.self.width l.self.values.now) i j).band1)) × (l.band2 ≡ rows_laid l.initial.band2 l.self.width l.r (λ i j. (split 1 l.self.width l.self.height (plane l.self.width l.self.values.now) i j).band2)) × (l.band3 ≡ rows_laid l.initial.band3 l.self.width l.r (λ i j. (split 1 l.self.width l.self.height (plane l.self.width l.self.values.now) i j).band3)) × (l.band4 ≡ rows_laid l.initial.band4 l.self.width l.r (λ i j. (split 1 l.self.width l.self.height (plane l.self.width l.self.values.now) i j).band4))
