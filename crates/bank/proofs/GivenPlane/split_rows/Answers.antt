-- `GivenPlane::split_rows` meets its contract: after r turns, r rows of each band are laid down.
use mathlib.Core.Path.{◌≡◌, ◌∙◌}
use Prim.Native.Nat.{ℕ}
use native.Mathlib.Omega.{arith}
use lib.IntN.{ℤ}
use Rattle.planes.proofs.Planes.{overwrite_no_row, row_laid, all_laid}
use Rattle.filters.specs.Bank.{Bands, split}
use Rattle.bank.specs.Planes.{plane}
use Rattle.bank.specs.Calls.{bands, split_lists}
use Rattle.bank.proofs.GivenPlane.split_rows.Goals as goal
use Rattle.bank.proofs.GivenPlane.split_rows.Goals.{Start}

-- a band, row by row
abbrev Band : goal.Start → (Bands ℤ → ℤ) → ℕ → ℕ → ℤ
Band s x = let p = s.args.self.now in λ i j. x (split 1 p.width p.height (plane p.width p.values.now) i j)

pub loop-r-init : goal.loop-r-init
loop-r-init c = let w = c.args.self.now.width in (overwrite_no_row _ 0 w _, overwrite_no_row _ 0 w _, overwrite_no_row _ 0 w _, overwrite_no_row _ 0 w _)

pub split_row-requires : goal.split_row-requires
split_row-requires c =
    let v = c.loop-r.auto in
    let len = c.requires.band1_len in
    record { row = c.loop-r-test.true; width_in_bounds = (omega (arith, v.low), omega (arith, v.high)); band1_len = (v.band1 ∙ len.0, v.band2 ∙ len.1, v.band3 ∙ len.2, v.band4 ∙ len.3) }

pub loop-r-preserved : goal.loop-r-preserved
loop-r-preserved c =
    let a = c.args in
    let w = a.self.now.width in
    let v = c.loop-r.invariant in
    let len = c.requires.band1_len in
    let h = c.loop-r-test.true in (
      row_laid w h a.band1.now len.0 (Band (goal.at.loop-r-preserved c).Start (λ b. b.band1)) v.0 c.split_row.ensures.band1_after,
      row_laid w h a.band2.now len.1 (Band (goal.at.loop-r-preserved c).Start (λ b. b.band2)) v.1 c.split_row.ensures.band2_after,
      row_laid w h a.band3.now len.2 (Band (goal.at.loop-r-preserved c).Start (λ b. b.band3)) v.2 c.split_row.ensures.band3_after,
      row_laid w h a.band4.now len.3 (Band (goal.at.loop-r-preserved c).Start (λ b. b.band4)) v.3 c.split_row.ensures.band4_after,
    )

pub returns : goal.returns
unfolding split_lists
returns c =
    let a = c.args in
    let w = a.self.now.width in
    let v = c.loop-r.invariant in
    let len = c.requires.band1_len in
    let all : c.loop-r.r ≡ a.self.now.height = omega arith in
    let b = Band (goal.at.returns c).Start in
    let laid1 = all_laid w all a.band1.now len.0 (b (λ q. q.band1)) v.0 in
    let laid2 = all_laid w all a.band2.now len.1 (b (λ q. q.band2)) v.1 in
    let laid3 = all_laid w all a.band3.now len.2 (b (λ q. q.band3)) v.2 in
    let laid4 = all_laid w all a.band4.now len.3 (b (λ q. q.band4)) v.3 in
    λ m. bands (laid1 m) (laid2 m) (laid3 m) (laid4 m)
