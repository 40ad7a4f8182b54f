-- `printing::put_digits` meets its contract: the digits that are left, before those that are put, make what is promised.
use mathlib.Core.Path.{◌∙◌}
use native.Mathlib.Omega.{arith}
use Rattle.printing.proofs.Texts.{digits_start, digits_step, digits_end}
use Rattle.printing.proofs.put_digits.Goals as goal

pub loop-k-init : goal.loop-k-init
loop-k-init c = digits_start _ _

pub loop-k-preserved : goal.loop-k-preserved
loop-k-preserved c = digits_step c.loop-k.out c.loop-k.k c.loop-k.rest (omega arith) (omega arith) ∙ c.loop-k.invariant

pub returns : goal.returns
returns c = digits_end c.loop-k.out c.loop-k.k c.loop-k.rest (omega arith) ∙ c.loop-k.invariant
