-- `lines::join_along` meets its contract: both lines are padded, and then the filters go along them.
use mathlib.Core.Path.{refl, ◌∙◌}
use Prim.Native.Nat.{◌+◌, ◌≤◌}
use native.Mathlib.Omega.{arith}
use lib.IntN.{◌+ℤ◌}
use lib.ListN.{length}
use borrow.Author.Rules.{rules}
use Rattle.integers.specs.Lists.{overwrite}
use Rattle.integers.proofs.Lists.{overwrite_cong}
use Rattle.filters.specs.Bank.{low_join, high_join}
use Rattle.lines.specs.Lines.{joined}
use Rattle.lines.proofs.Lines.{five_runs, five-along}
use Rattle.lines.proofs.join_along.Goals as goal
use Rattle.lines.proofs.join_along.Goals.{Start}

fit_low : (s : goal.Start) → 2 + s.args.n + 2 ≤ length s.args.low.now
fit_low s = omega arith

fit_high : (s : goal.Start) → 2 + s.args.n + 2 ≤ length s.args.high.now
fit_high s = omega arith

pub join_lines-requires : goal.join_lines-requires
join_lines-requires c =
    let p = c.requires.le_n in
    let runs-low = five_runs 1 p.0 refl c.args.low.now (fit_low (goal.at.join_lines-requires c).Start) c.pad_line.ensures p.3 in
    let runs-high = five_runs 1 p.0 refl c.args.high.now (fit_high (goal.at.join_lines-requires c).Start) c.pad_line-2.ensures p.5 in
    search rules

pub returns : goal.returns
unfolding joined
returns c =
    let a = c.args in
    let p = c.requires.le_n in
    let e = c.pad_line.ensures in
    let f = c.pad_line-2.ensures in
    record { low_after = (e, f); out_after = c.join_lines.ensures ∙ (λ m. overwrite a.out.now a.at a.n (joined c.pad_line.new.line c.pad_line-2.new.line (c.spaced.ensures m))) ∙ overwrite_cong a.out.now a.at a.n _ _ (λ k i. λ m. five-along 1 p.0 refl a.low.now (fit_low (goal.at.returns c).Start) e low_join k i m +ℤ five-along 1 p.0 refl a.high.now (fit_high (goal.at.returns c).Start) f high_join k i m) }
