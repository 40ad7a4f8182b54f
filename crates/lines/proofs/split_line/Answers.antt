-- `lines::split_line` meets its contract: after i turns, i places of both are laid down.
use mathlib.Core.Path.{refl, ◌∙◌}
use Prim.Native.Nat.{ℕ, ◌+◌, ◌<◌}
use native.Mathlib.Omega.{arith}
use lib.Dec.{lit<}
use lib.IntN.{ℤ}
use mir.Syntax.{w32}
use Rattle.integers.proofs.Lists.{overwrite_none, overwrite_step}
use Rattle.integers.proofs.Bounds.{read_is}
use Rattle.filters.specs.Bank.{low_split, high_split}
use Rattle.lines.specs.Lines.{three}
use Rattle.lines.proofs.Lines.{three_read}
use Rattle.lines.proofs.split_line.Goals as goal
use Rattle.lines.proofs.split_line.Goals.{Start}

-- what is laid down
abbrev Low : goal.Start → ℕ → ℤ
Low s = let a = s.args in three low_split a.source.now a.a a.b a.c

abbrev High : goal.Start → ℕ → ℤ
High s = let a = s.args in three high_split a.source.now a.a a.b a.c

pub loop-i-init : goal.loop-i-init
loop-i-init c = let a = c.args in (overwrite_none a.low.now a.at (Low c), overwrite_none a.high.now a.at (High c))

pub loop-i-preserved : goal.loop-i-preserved
loop-i-preserved c =
    let r = c.requires.run in
    let h : c.loop-i.i < c.args.n = omega arith in (
      overwrite_step c.args.low.now c.args.at c.loop-i.i (Low (goal.at.loop-i-preserved c).Start) (c.args.at + c.loop-i.i) refl c.loop-i.invariant.0 (read_is w32 c.low_split.type_inv c.low_split.ensures ∙ three_read low_split r.0 r.1 r.2 c.loop-i.i h (lit< tt)) (omega arith),
      overwrite_step c.args.high.now c.args.at c.loop-i.i (High (goal.at.loop-i-preserved c).Start) (c.args.at + c.loop-i.i) refl c.loop-i.invariant.1 (read_is w32 c.high_split.type_inv c.high_split.ensures ∙ three_read high_split r.0 r.1 r.2 c.loop-i.i h (lit< tt)) (omega arith),
    )
