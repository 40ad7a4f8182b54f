-- `lines::split_along` meets its contract: the line is padded, and then both filters go along it.
use mathlib.Core.Path.{refl, ◌∙◌}
use Prim.Native.Nat.{◌+◌, ◌≤◌}
use native.Mathlib.Omega.{arith}
use lib.ListN.{length}
use borrow.Author.Rules.{rules}
use Rattle.integers.proofs.Lists.{overwrite_cong}
use Rattle.filters.specs.Bank.{low_split, high_split}
use Rattle.lines.proofs.Lines.{three_runs, three-along}
use Rattle.lines.proofs.split_along.Goals as goal
use Rattle.lines.proofs.split_along.Goals.{Start}

fit : (s : goal.Start) → 1 + s.args.n + 1 ≤ length s.args.line.now
fit s = omega arith

pub split_line-requires : goal.split_line-requires
split_line-requires c =
    let runs = three_runs 1 c.requires.le_n.0 c.args.line.now (fit (goal.at.split_line-requires c).Start) c.pad_line.ensures c.requires.le_n.3 in
    search rules

pub returns : goal.returns
unfolding low_split high_split
returns c =
    let a = c.args in
    let e = c.pad_line.ensures in
    record { line_after = e; low_after = c.split_line.ensures.low_after ∙ overwrite_cong a.low.now a.at a.n _ _ (three-along 1 c.requires.le_n.0 a.line.now (fit (goal.at.returns c).Start) e low_split refl); high_after = c.split_line.ensures.high_after ∙ overwrite_cong a.high.now a.at a.n _ _ (three-along 1 c.requires.le_n.0 a.line.now (fit (goal.at.returns c).Start) e high_split refl) }
