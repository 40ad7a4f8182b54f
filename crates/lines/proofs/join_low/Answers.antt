-- `lines::join_low` meets its contract: after i turns, i places are laid down.
use mathlib.Core.Path.{refl, ◌∙◌}
use Prim.Native.Nat.{ℕ, ◌+◌}
use native.Mathlib.Omega.{arith}
use lib.Dec.{lit<}
use lib.IntN.{ℤ}
use mir.Syntax.{w32}
use Rattle.integers.proofs.Lists.{overwrite_none, overwrite_step}
use Rattle.integers.proofs.Bounds.{read_is}
use Rattle.filters.specs.Bank.{low_join}
use Rattle.lines.specs.Lines.{five}
use Rattle.lines.proofs.Lines.{five_read}
use Rattle.lines.proofs.join_low.Goals as goal
use Rattle.lines.proofs.join_low.Goals.{Start}

-- what is laid down
abbrev Low : goal.Start → ℕ → ℤ
Low s = let a = s.args in five low_join a.source.now a.starts

pub loop-i-init : goal.loop-i-init
loop-i-init c = overwrite_none c.args.out.now c.args.at (Low c)

pub loop-i-preserved : goal.loop-i-preserved
loop-i-preserved c =
    overwrite_step c.args.out.now c.args.at c.loop-i.i (Low (goal.at.loop-i-preserved c).Start) (c.args.at + c.loop-i.i) refl c.loop-i.invariant (read_is w32 c.low_join.type_inv c.low_join.ensures ∙ five_read low_join c.requires.runs c.loop-i.i c.loop-i-test.true (lit< tt)) (omega arith)
