-- `tally::finished_after` meets its contract.
use native.Mathlib.Omega.{arith}
use Rattle.tally.proofs.Counting.{finished_yes, finished_no}
use Rattle.tally.proofs.finished_after.Goals as goal

pub returns-then-number-eq0 : goal.returns-then-number-eq0
returns-then-number-eq0 c = finished_yes c.args.before c.args.number c.if-number-eq0.true (omega arith)

pub returns : goal.returns
returns c = finished_no c.args.before c.args.number c.if-number-eq0.false (omega arith)
