-- `merging::cross` meets its contract: after k turns, k places are laid down, for every function that the parts are.
use mathlib.Core.Path.{◌≡◌}
use Prim.Native.Nat.{◌≤◌}
use lib.IntN.{ℤ, nat_abs}
use Rattle.integers.specs.Lists.{overwrite}
use Rattle.merging.specs.Merging.{crossed_of}
use Rattle.merging.proofs.cross.Given as goal

abbrev pub invariant-loop-k : goal.invariant-loop-k
invariant-loop-k g l = (f : ℤ → ℤ) → ((z r : ℤ) → nat_abs z ≤ 805306368 → goal.F-post g l.part z r → r ≡ f z) → l.out ≡ overwrite l.initial.out 2 l.k (crossed_of f l.x l.y l.starts)
