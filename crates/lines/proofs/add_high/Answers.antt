-- `lines::add_high` meets its contract: after i turns, i places are laid down; what follows is still what was there.
use mathlib.Core.Path.{◌≡◌, refl, ◌∙◌, ap}
use mathlib.Core.List.{List}
use Prim.Native.Nat.{ℕ, ◌+◌, ◌≤◌}
use native.Mathlib.Omega.{arith}
use lib.Dec.{lit<}
use lib.IntN.{ℤ, nat_abs, ◌+ℤ◌}
use mir.Syntax.{w32}
use mir.Val.{to_z, of_z}
use mir.Facts.{to_z-of_z as back}
use borrow.Author.Rules.{rules}
use Rattle.integers.proofs.Lists.{overwrite_none, overwrite_step}
use Rattle.integers.proofs.Bounds.{fits, bounds, read_is}
use Rattle.planes.specs.Lists.{value}
use Rattle.filters.specs.Bank.{high_join}
use Rattle.filters.proofs.Ranges.{gain}
use Rattle.lines.specs.Lines.{five}
use Rattle.lines.proofs.Lines.{outside, five_read, five_range}
use Rattle.lines.proofs.add_high.Goals as goal
use Rattle.lines.proofs.add_high.Goals.{After-high_join-high, Start}

-- what is laid down
abbrev Sum : goal.Start → ℕ → ℤ
Sum s = let a = s.args in λ k. value a.out.now (a.at + k) +ℤ five high_join a.source.now a.starts k

pub loop-i-init : goal.loop-i-init
loop-i-init c = overwrite_none c.args.out.now c.args.at (Sum c)

-- what is still there, and the filter's sum, as the machine reads them
there : (c : goal.After-high_join-high)
    → let a = c.args in value c.loop-i.out (a.at + c.loop-i.i) ≡ value a.out.now (a.at + c.loop-i.i)
there c =
    let a = c.args in
    ap (λ (m : List ℤ). value m (a.at + c.loop-i.i)) c.loop-i.invariant ∙ outside a.out.now a.at c.loop-i.i (Sum c.before.before.before.before.before.before.before.before.before.before.before.before.before) (a.at + c.loop-i.i) (omega arith) (λ h. omega arith)

high_is : (c : goal.After-high_join-high)
    → let a = c.args in to_z w32 (of_z w32 c.high_join-high.result) ≡ five high_join a.source.now a.starts c.loop-i.i
high_is c = read_is w32 c.high_join-high.type_inv c.high_join-high.ensures ∙ five_read high_join c.requires.runs c.loop-i.i c.loop-i-test.true (lit< tt)

high_small : (c : goal.After-high_join-high) → nat_abs (to_z w32 (of_z w32 c.high_join-high.result)) ≤ 805306368
unfolding gain high_join
high_small c = omega (arith, ap nat_abs (high_is c), five_range high_join c.requires.runs c.loop-i.i c.loop-i-test.true)

pub overflow_add-out-in-loop-i : goal.overflow_add-out-in-loop-i
overflow_add-out-in-loop-i c =
    let x = value c.loop-i.out (c.args.at + c.loop-i.i) in
    let h : nat_abs x ≤ 805306368 = omega (arith, ap nat_abs (there (goal.at.overflow_add-out-in-loop-i c).After-high_join-high), c.requires.run.small c.loop-i.i c.loop-i-test.true) in
    let k = high_small (goal.at.overflow_add-out-in-loop-i c).After-high_join-high in
    fits (search bounds depth 14) tt

pub loop-i-preserved : goal.loop-i-preserved
loop-i-preserved c =
    let a = c.args in
    let x = value c.loop-i.out (a.at + c.loop-i.i) in
    let same : to_z w32 (of_z w32 x) ≡ x = search rules in
    overwrite_step a.out.now a.at c.loop-i.i (Sum (goal.at.loop-i-preserved c).Start) (a.at + c.loop-i.i) refl c.loop-i.invariant (back (overflow_add-out-in-loop-i c) ∙ (λ m. (same ∙ there (goal.at.loop-i-preserved c).After-high_join-high) m +ℤ high_is (goal.at.loop-i-preserved c).After-high_join-high m)) (omega (arith, c.loop-i-test.true, c.requires.run.inside))
