-- `GivenBands::join_rows` meets its contract: after r turns, r rows of the sums are laid down.
use mathlib.Core.Path.{◌≡◌, ◌∙◌}
use Prim.Native.Nat.{ℕ}
use native.Mathlib.Omega.{arith}
use lib.IntN.{ℤ}
use Rattle.planes.proofs.Planes.{overwrite_no_row, row_laid, all_laid}
use Rattle.filters.specs.Bank.{join}
use Rattle.bank.specs.Planes.{bands_of}
use Rattle.bank.specs.Calls.{bands, join_list}
use Rattle.bank.proofs.GivenBands.join_rows.Goals as goal
use Rattle.bank.proofs.GivenBands.join_rows.Goals.{Start}

-- the sums, row by row
abbrev Sums : goal.Start → ℕ → ℕ → ℤ
Sums s = let g = s.args.self.now in join 1 g.width g.height (bands_of g.width (bands g.band1.now g.band2.now g.band3.now g.band4.now))

pub loop-r-init : goal.loop-r-init
loop-r-init c = overwrite_no_row _ 0 c.args.self.now.width _

pub join_row-requires : goal.join_row-requires
join_row-requires c =
    let v = c.loop-r.auto in
    record { row = c.loop-r-test.true; width_in_bounds = (omega (arith, v.low), omega (arith, v.high), v.sums ∙ c.requires.2) }

pub loop-r-preserved : goal.loop-r-preserved
loop-r-preserved c =
    row_laid c.args.self.now.width c.loop-r-test.true c.args.sums.now c.requires.2 (Sums (goal.at.loop-r-preserved c).Start) c.loop-r.invariant c.join_row.ensures

pub returns : goal.returns
unfolding join_list
returns c =
    let all : c.loop-r.r ≡ c.args.self.now.height = omega arith in
    all_laid c.args.self.now.width all c.args.sums.now c.requires.2 (Sums (goal.at.returns c).Start) c.loop-r.invariant
