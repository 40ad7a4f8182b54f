-- `merging::add_low` meets its contract: after k turns, k places of both are laid down.
use mathlib.Core.Path.{refl, ◌∙◌}
use Prim.Native.Nat.{ℕ, ◌+◌, ◌≤◌, ◌<◌}
use native.Mathlib.Omega.{arith}
use lib.Dec.{lit<}
use lib.IntN.{ℤ, nat_abs, ◌+ℤ◌, ◌-ℤ◌}
use mir.Syntax.{w32}
use mir.Val.{to_z, of_z}
use mir.Facts.{to_z-of_z as back}
use Rattle.integers.proofs.Lists.{overwrite_none, overwrite_step}
use Rattle.integers.proofs.Bounds.{fits, bounds, read_is, read_bound}
use Rattle.planes.specs.Lists.{value}
use Rattle.filters.specs.Bank.{low_join}
use Rattle.filters.proofs.Ranges.{gain}
use Rattle.lines.proofs.Lines.{read_small, read_value, five_range}
use Rattle.merging.specs.Merging.{low_away, low_added}
use Rattle.merging.proofs.add_low.Goals as goal
use Rattle.merging.proofs.add_low.Goals.{After-apart-1, After-low_at-low, Start}

-- what is laid down
abbrev Away : goal.Start → ℕ → ℤ
Away s = let a = s.args in low_away a.apart1.now a.from a.line.now

abbrev Added : goal.Start → ℕ → ℤ
Added s = let a = s.args in low_added a.together1.now a.from a.line.now

-- what is merged is small
low_small : (c : goal.After-low_at-low) → nat_abs (to_z w32 (of_z w32 c.low_at-low.result)) ≤ 805306368
unfolding gain low_join
low_small c = read_bound w32 c.low_at-low.ensures (five_range low_join c.requires.runs.0 c.loop-k.k (omega arith))

pub loop-k-init : goal.loop-k-init
loop-k-init c = let a = c.args in (overwrite_none a.apart.now a.at (Away c), overwrite_none a.together.now a.at (Added c))

pub overflow_sub-apart : goal.overflow_sub-apart
overflow_sub-apart c =
    let q = low_small (goal.at.overflow_sub-apart c).After-low_at-low in
    let p : nat_abs (to_z w32 (of_z w32 (value c.args.apart1.now (c.args.from + c.loop-k.k)))) ≤ 1073741824 = read_small 1073741824 (omega arith) c.requires.runs.1 c.loop-k.k (omega arith) in
    fits (search bounds depth 14) tt

pub overflow_add-together-in-loop-k-2 : goal.overflow_add-together-in-loop-k-2
overflow_add-together-in-loop-k-2 c =
    let q = low_small (goal.at.overflow_add-together-in-loop-k-2 c).After-low_at-low in
    let p : nat_abs (to_z w32 (of_z w32 (value c.args.together1.now (c.args.from + c.loop-k.k)))) ≤ 1073741824 = read_small 1073741824 (omega arith) c.requires.runs.2 c.loop-k.k (omega arith) in
    fits (search bounds depth 14) tt

pub loop-k-preserved : goal.loop-k-preserved
unfolding low_away low_added
loop-k-preserved c =
    let i : c.loop-k.k < c.args.n = omega arith in
    let o = read_is w32 c.low_at-low.type_inv c.low_at-low.ensures in (
      overwrite_step c.args.apart.now c.args.at c.loop-k.k (Away (goal.at.loop-k-preserved c).Start) (c.args.at + c.loop-k.k) refl c.loop-k.invariant.0 (back (overflow_sub-apart (goal.at.loop-k-preserved c).After-apart-1) ∙ (λ j. read_value (lit< tt) c.requires.runs.1 c.loop-k.k i j -ℤ o j)) (omega arith),
      overwrite_step c.args.together.now c.args.at c.loop-k.k (Added (goal.at.loop-k-preserved c).Start) (c.args.at + c.loop-k.k) refl c.loop-k.invariant.1 (back (overflow_add-together-in-loop-k-2 c) ∙ (λ j. read_value (lit< tt) c.requires.runs.2 c.loop-k.k i j +ℤ o j)) (omega arith),
    )
