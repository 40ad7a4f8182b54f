-- `merging::band_line` meets its contract: after k turns, k places are laid down.
use mathlib.Core.Path.{refl, ◌∙◌}
use Prim.Native.Nat.{ℕ, ◌+◌, ◌*◌, ◌<◌}
use native.Mathlib.Omega.{arith}
use lib.Dec.{lit<}
use lib.IntN.{ℤ}
use mir.Syntax.{w32}
use borrow.Author.Rules.{rules}
use Rattle.integers.proofs.Lists.{overwrite_none, overwrite_step}
use Rattle.integers.proofs.Bounds.{read_is}
use Rattle.filters.specs.Bank.{low_split}
use Rattle.lines.specs.Lines.{three}
use Rattle.details.proofs.Details.{triple_small, triple_read}
use Rattle.merging.proofs.band_line.Goals as goal
use Rattle.merging.proofs.band_line.Goals.{Start}

-- what is laid down
abbrev Laid : goal.Start → ℕ → ℤ
Laid s = let a = s.args in three low_split a.line.now 0 a.d (2 * a.d)

pub loop-k-init : goal.loop-k-init
loop-k-init c = let a = c.args in overwrite_none a.out.now a.at (Laid c)

pub low_split-requires : goal.low_split-requires
low_split-requires c =
    let small = triple_small low_split c.requires.0 c.loop-k.k c.loop-k-test.true 178956970 (omega arith) in
    search rules

pub loop-k-preserved : goal.loop-k-preserved
loop-k-preserved c =
    let i : c.loop-k.k < c.args.n = omega arith in
    overwrite_step c.args.out.now c.args.at c.loop-k.k (Laid (goal.at.loop-k-preserved c).Start) (c.args.at + c.loop-k.k) refl c.loop-k.invariant (read_is w32 c.low_split.type_inv c.low_split.ensures ∙ triple_read low_split c.requires.0 c.loop-k.k i (lit< tt)) (omega arith)
