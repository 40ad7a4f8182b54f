-- `lines::pad_side` meets its contract: after k turns, k places of the side are laid down, and the middle is as it was.
use mathlib.Core.Path.{◌≡◌}
use Prim.Native.Nat.{◌+◌}
use Rattle.integers.specs.Lists.{overwrite}
use Rattle.planes.specs.Lists.{value}
use Rattle.lines.specs.Lines.{meant}
use Rattle.lines.proofs.pad_side.Given as goal

abbrev pub invariant-loop-k : goal.invariant-loop-k
invariant-loop-k l = l.line ≡ overwrite l.initial.line l.from l.k (λ j. value l.initial.line (meant l.n l.pad (l.from + j)))
