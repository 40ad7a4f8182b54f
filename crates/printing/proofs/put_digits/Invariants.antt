-- `printing::put_digits` meets its contract: the digits that are left, before those that are put, make what is promised.
use mathlib.Core.Path.{◌≡◌}
use mathlib.Core.List.{◌++◌}
use lib.ListN.{length, drop}
use Rattle.printing.specs.Text.{digits}
use Rattle.printing.proofs.put_digits.Given as goal

abbrev pub invariant-loop-k : goal.invariant-loop-k
invariant-loop-k l = digits l.k l.rest ++ drop l.k l.out ≡ digits (length l.fn.out) l.n
