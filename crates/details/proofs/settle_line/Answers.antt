-- `details::settle_line` meets its contract: after k turns, k places are laid down.
use mathlib.Core.Path.{◌≡◌, refl, sym, ◌∙◌, ap, subst}
use mathlib.Core.List.{List}
use Prim.Native.Nat.{ℕ, ◌+◌, ◌≤◌, ◌<◌}
use native.Mathlib.Nat.{le_trans}
use native.Mathlib.Omega.{arith}
use lib.Dec.{lit<}
use lib.IntN.{ℤ, pos, nat_abs}
use mir.Syntax.{w32}
use mir.Val.{to_z, of_z}
use Rattle.integers.proofs.Lists.{overwrite_none, overwrite_step, overwrite-after}
use Rattle.integers.proofs.Bounds.{read_is, read_bound, abs_read}
use Rattle.planes.specs.Lists.{value}
use Rattle.lines.proofs.Lines.{read_value}
use Rattle.details.specs.Details.{crossed, settled}
use Rattle.details.proofs.Details.{crossing_range, crossing_wider}
use Rattle.details.proofs.settle_line.Goals as goal
use Rattle.details.proofs.settle_line.Goals.{At-loop-k, Start}

-- what is laid down
abbrev Laid : goal.Start → ℕ → ℤ
Laid s = let a = s.args in λ i. settled a.range.least a.range.most (value a.own.now (a.at + i)) (crossed a.apart.now a.together.now a.starts i)

-- the place that is next is as it was
untouched : (l : goal.At-loop-k) → l.loop-k.k < l.args.n → value l.loop-k.own (l.args.at + l.loop-k.k) ≡ value l.args.own.now (l.args.at + l.loop-k.k)
untouched l i = ap (λ (x : List ℤ). value x (l.args.at + l.loop-k.k)) l.loop-k.invariant ∙ overwrite-after l.args.own.now l.args.at l.loop-k.k (Laid l.before) (l.args.at + l.loop-k.k) (pos 0) (omega (arith, l.requires.0.inside)) (omega arith)

pub loop-k-init : goal.loop-k-init
loop-k-init c = let a = c.args in overwrite_none a.own.now a.at (Laid c)

pub crossed_at-sum-requires : goal.crossed_at-sum-requires
crossed_at-sum-requires c = (crossing_wider (omega arith) c.requires.1, omega arith)

pub rescale_less-requires : goal.rescale_less-requires
rescale_less-requires c =
    let i : c.loop-k.k < c.args.n = omega arith in
    let x : nat_abs (value c.loop-k.own (c.args.at + c.loop-k.k)) ≤ 131070 = subst (λ (z : ℤ). nat_abs z ≤ 131070) (sym (untouched (goal.at.rescale_less-requires c).At-loop-k i)) (c.requires.0.small c.loop-k.k i) in
    (le_trans (abs_read w32 (value c.loop-k.own (c.args.at + c.loop-k.k))) x, read_bound w32 c.crossed_at-sum.ensures (crossing_range c.requires.1 c.loop-k.k i))

pub loop-k-preserved : goal.loop-k-preserved
unfolding settled
loop-k-preserved c =
    let a = c.args in
    let i : c.loop-k.k < a.n = omega arith in
    let v : to_z w32 (of_z w32 (value c.loop-k.own (a.at + c.loop-k.k))) ≡ value a.own.now (a.at + c.loop-k.k) = ap (λ z. to_z w32 (of_z w32 z)) (untouched (goal.at.loop-k-preserved c).At-loop-k i) ∙ read_value (lit< tt) c.requires.0 c.loop-k.k i in
    let q = read_is w32 c.crossed_at-sum.type_inv c.crossed_at-sum.ensures in
    overwrite_step a.own.now a.at c.loop-k.k (Laid (goal.at.loop-k-preserved c).Start) (a.at + c.loop-k.k) refl c.loop-k.invariant (read_is w32 c.rescale_less.type_inv c.rescale_less.ensures ∙ (λ j. settled a.range.least a.range.most (v j) (q j))) (omega (arith, c.requires.0.inside))
