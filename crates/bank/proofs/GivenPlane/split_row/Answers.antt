-- `GivenPlane::split_row` meets its contract: the columns' filters lay down two lines, and along each the rows' filters two bands.
use mathlib.Core.Path.{refl, ap}
use Prim.Native.Nat.{ℕ, ◌+◌, ◌*◌, ◌≤◌}
use native.Mathlib.Omega.{arith}
use lib.ListN.{length}
use Rattle.planes.proofs.Planes.{row_room}
use Rattle.filters.specs.Bank.{split, low_split, high_split}
use Rattle.filters.proofs.Ranges.{gain}
use Rattle.bank.proofs.Rows.{row_small, Near, three-rows, three_run, band_laid}
use Rattle.bank.proofs.GivenPlane.split_row.Goals as goal
use Rattle.bank.proofs.GivenPlane.split_row.Goals.{After-reflected, Start}

pub overflow_mul-above : goal.overflow_mul-above
overflow_mul-above c = record { fits = omega (arith, row_small c.args.self.now.fits.0 c.reflected_before.result c.reflected_before.ensures.1) }

pub overflow_mul-here : goal.overflow_mul-here
overflow_mul-here c = record { fits = omega (arith, row_small c.args.self.now.fits.0 c.args.r c.requires.row) }

pub overflow_mul-below : goal.overflow_mul-below
overflow_mul-below c = record { fits = omega (arith, row_small c.args.self.now.fits.0 c.reflected.result c.reflected.ensures.1) }

-- the three rows
near : (c : goal.After-reflected)
    → let p = c.args.self.now in Near p.width p.height c.args.r (c.reflected_before.result * p.width) (c.reflected.result * p.width)
near c = record { inside = c.requires.row; is_above = ap (λ (i : ℕ). i * c.args.self.now.width) c.reflected_before.ensures.0; is_below = ap (λ (i : ℕ). i * c.args.self.now.width) c.reflected.ensures.0 }

pub split_line-requires : goal.split_line-requires
split_line-requires c = record { run = three-rows (near (goal.at.split_line-requires c).After-reflected) c.args.self.now.values.now c.args.self.now.fits.1 134217728 (omega arith); n_in_bounds = (omega arith, omega arith) }

-- row r has its place in a band
room : (s : goal.Start) → s.args.r * s.args.self.now.width + s.args.self.now.width ≤ s.args.self.now.width * s.args.self.now.height
room s = row_room s.args.self.now.width s.args.self.now.height s.args.r s.requires.row

low_room : (s : goal.Start) → 1 + s.args.self.now.width ≤ length s.args.low.now
low_room s = omega arith

high_room : (s : goal.Start) → 1 + s.args.self.now.width ≤ length s.args.high.now
high_room s = omega arith

pub split_along-requires : goal.split_along-requires
unfolding gain low_split
split_along-requires c =
    let z = c.args.self.now.fits.0 in
    record { le_n = (z.width_from, z.width_to, omega arith, three_run (near (goal.at.split_along-requires c).After-reflected) c.args.self.now.values.now low_split c.args.low.now (low_room (goal.at.split_along-requires c).Start) c.split_line.ensures.low_after c.args.self.now.fits.1 134217728 (omega arith)); n_in_bounds = (omega (arith, room (goal.at.split_along-requires c).Start), omega (arith, room (goal.at.split_along-requires c).Start)) }

pub split_along-requires-2 : goal.split_along-requires-2
unfolding gain high_split
split_along-requires-2 c =
    let z = c.args.self.now.fits.0 in
    record { le_n = (z.width_from, z.width_to, omega (arith, c.split_line.auto.high, c.requires.width_in_bounds.1), three_run (near (goal.at.split_along-requires-2 c).After-reflected) c.args.self.now.values.now high_split c.args.high.now (high_room (goal.at.split_along-requires-2 c).Start) c.split_line.ensures.high_after c.args.self.now.fits.1 134217728 (omega arith)); n_in_bounds = (omega (arith, room (goal.at.split_along-requires-2 c).Start), omega (arith, room (goal.at.split_along-requires-2 c).Start)) }

pub returns : goal.returns
unfolding split low_split high_split
returns c =
    let a = c.args in
    let at = a.r * a.self.now.width in
    let n = near (goal.at.returns c).After-reflected in
    let g = a.self.now.values.now in
    record { band1_after = band_laid n g low_split a.low.now (low_room (goal.at.returns c).Start) c.split_line.ensures.low_after low_split refl a.band1.now at c.split_along.ensures.low_after; band2_after = band_laid n g low_split a.low.now (low_room (goal.at.returns c).Start) c.split_line.ensures.low_after high_split refl a.band2.now at c.split_along.ensures.high_after; band3_after = band_laid n g high_split a.high.now (high_room (goal.at.returns c).Start) c.split_line.ensures.high_after low_split refl a.band3.now at c.split_along-2.ensures.low_after; band4_after = band_laid n g high_split a.high.now (high_room (goal.at.returns c).Start) c.split_line.ensures.high_after high_split refl a.band4.now at c.split_along-2.ensures.high_after }
