-- `lines::add_high` meets its contract: after i turns, i places are laid down; what follows is still what was there.
use mathlib.Core.Path.{◌≡◌}
use Prim.Native.Nat.{◌+◌}
use lib.IntN.{◌+ℤ◌}
use Rattle.integers.specs.Lists.{overwrite}
use Rattle.planes.specs.Lists.{value}
use Rattle.filters.specs.Bank.{high_join}
use Rattle.lines.specs.Lines.{five}
use Rattle.lines.proofs.add_high.Given as goal

abbrev pub invariant-loop-i : goal.invariant-loop-i
invariant-loop-i l = l.out ≡ overwrite l.initial.out l.at l.i (λ k. value l.initial.out (l.at + k) +ℤ five high_join l.source l.starts k)
