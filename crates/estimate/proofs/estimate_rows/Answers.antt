-- `estimate::estimate_rows` meets its contract: after r turns, r rows of each plane are laid down.
use mathlib.Core.Path.{◌≡◌}
use native.Mathlib.Omega.{arith}
use Prim.Native.Nat.{ℕ}
use Rattle.planes.specs.Planes.{Planes}
use Rattle.planes.proofs.Planes.{overwrite_no_row, row_laid, all_laid}
use Rattle.estimate.specs.Estimates.{estimates}
use Rattle.estimate.proofs.estimate_rows.Goals as goal
use Rattle.estimate.proofs.estimate_rows.Goals.{Start}

abbrev Plane : goal.Start → ℕ → ℕ → Planes ℕ
Plane s = let a = s.args in estimates a.top a.frame.now

pub loop-r-init : goal.loop-r-init
loop-r-init c = let w = c.args.frame.now.shape.width in (overwrite_no_row _ 0 w _, overwrite_no_row _ 0 w _, overwrite_no_row _ 0 w _)

pub loop-r-preserved : goal.loop-r-preserved
loop-r-preserved c =
    let a = c.args in
    let v = c.loop-r.invariant in
    let len = c.requires in
    let h = c.loop-r-test.true in
    let p = Plane (goal.at.loop-r-preserved c).Start in (
      row_laid a.frame.now.shape.width h a.red.now len.0 (λ i j. (p i j).red) v.0 c.estimate_row.ensures.red_after,
      row_laid a.frame.now.shape.width h a.green.now len.1 (λ i j. (p i j).green) v.1 c.estimate_row.ensures.green_after,
      row_laid a.frame.now.shape.width h a.blue.now len.2 (λ i j. (p i j).blue) v.2 c.estimate_row.ensures.blue_after,
    )

pub returns : goal.returns
returns c =
    let a = c.args in
    let v = c.loop-r.invariant in
    let len = c.requires in
    let all : c.loop-r.r ≡ a.frame.now.shape.height = omega arith in
    let p = Plane (goal.at.returns c).Start in
    record {
      red_after = all_laid a.frame.now.shape.width all a.red.now len.0 (λ i j. (p i j).red) v.0;
      green_after = all_laid a.frame.now.shape.width all a.green.now len.1 (λ i j. (p i j).green) v.1;
      blue_after = all_laid a.frame.now.shape.width all a.blue.now len.2 (λ i j. (p i j).blue) v.2;
    }
