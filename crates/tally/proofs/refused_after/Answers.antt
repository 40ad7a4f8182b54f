-- `tally::refused_after` meets its contract.
use native.Mathlib.Omega.{arith}
use Rattle.tally.proofs.Counting.{refused_yes, refused_no}
use Rattle.tally.proofs.refused_after.Goals as goal

pub returns-then-number-eq0 : goal.returns-then-number-eq0
returns-then-number-eq0 c = refused_yes c.args.before c.args.number c.if-number-eq0.true (omega arith)

pub returns : goal.returns
returns c = refused_no c.args.before c.args.number c.if-number-eq0.false (omega arith)
