-- `window::row_sum` meets its contract. The loop's invariant: the sum is that of the samples passed, each below 65,536.
use native.Mathlib.Omega.{arith}
use Rattle.window.proofs.Totals.{total_none, total_more}
use Rattle.window.proofs.row_sum.Invariants.{Sample}
use Rattle.window.proofs.row_sum.Goals as goal

pub loop-sample-init : goal.loop-sample-init
loop-sample-init c = (total_none _, omega arith)

pub loop-sample-preserved : goal.loop-sample-preserved
loop-sample-preserved c =
    let l = c.loop-sample in
    (total_more l.sample-index (Sample c.args.row.now) l.invariant.0 c.from-sum.ensures, omega arith)
