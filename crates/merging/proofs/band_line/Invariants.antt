-- `merging::band_line` meets its contract: after k turns, k places are laid down.
use mathlib.Core.Path.{◌≡◌}
use Prim.Native.Nat.{◌*◌}
use Rattle.integers.specs.Lists.{overwrite}
use Rattle.filters.specs.Bank.{low_split}
use Rattle.lines.specs.Lines.{three}
use Rattle.merging.proofs.band_line.Given as goal

abbrev pub invariant-loop-k : goal.invariant-loop-k
invariant-loop-k l = l.out ≡ overwrite l.initial.out l.at l.k (three low_split l.line 0 l.d (2 * l.d))
