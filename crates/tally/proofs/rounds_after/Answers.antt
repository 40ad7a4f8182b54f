-- `tally::rounds_after` meets its contract.
use native.Mathlib.Omega.{arith}
use Rattle.tally.proofs.Counting.{rounds_yes, rounds_no}
use Rattle.tally.proofs.rounds_after.Goals as goal

pub returns-then-number-eq0 : goal.returns-then-number-eq0
returns-then-number-eq0 c = rounds_yes c.args.before c.args.number c.args.rounds c.if-number-eq0.true (omega arith)

pub returns : goal.returns
returns c = rounds_no c.args.before c.args.number c.args.rounds c.if-number-eq0.false (omega arith)
