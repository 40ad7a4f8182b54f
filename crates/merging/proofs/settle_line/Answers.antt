-- `merging::settle_line` meets its contract: after k turns, k places are laid down.
use mathlib.Core.Path.{◌≡◌, refl, sym, ◌∙◌, ap, subst}
use mathlib.Core.List.{List}
use Prim.Native.Nat.{ℕ, ◌+◌, ◌≤◌, ◌<◌}
use native.Mathlib.Omega.{arith}
use native.Mathlib.Nat.{le_trans, zero-add}
use lib.Dec.{lit<}
use lib.IntN.{ℤ, pos, nat_abs}
use mir.Syntax.{w32}
use mir.Val.{to_z, of_z}
use Rattle.integers.proofs.Lists.{overwrite_none, overwrite_step, overwrite-after}
use Rattle.integers.proofs.Bounds.{read_is, read_bound, abs_read}
use Rattle.planes.specs.Lists.{value}
use Rattle.lines.proofs.Lines.{read_small, read_value}
use Rattle.details.proofs.Details.{crossing_range}
use Rattle.nested_floor.specs.NestedFloor.{settled_two}
use Rattle.merging.specs.Merging.{settled_place}
use Rattle.merging.proofs.settle_line.Goals as goal
use Rattle.merging.proofs.settle_line.Goals.{At-loop-k, Start}

-- what is laid down, with the clip's ends as the machine reads them
abbrev Laid : goal.Start → ℕ → ℤ
Laid s = let a = s.args in settled_place (to_z w32 (of_z w32 a.least)) (to_z w32 (of_z w32 a.most)) a.own.now a.at a.apart.now a.together.now a.starts a.small.now

-- the place that is next is as it was
untouched : (l : goal.At-loop-k) → l.loop-k.k < l.args.n → value l.loop-k.own (l.args.at + l.loop-k.k) ≡ value l.args.own.now (l.args.at + l.loop-k.k)
untouched l i = ap (λ (x : List ℤ). value x (l.args.at + l.loop-k.k)) l.loop-k.invariant ∙ overwrite-after l.args.own.now l.args.at l.loop-k.k (Laid l.before) (l.args.at + l.loop-k.k) (pos 0) (omega (arith, l.requires.0.inside)) (omega arith)

pub loop-k-init : goal.loop-k-init
loop-k-init c = let a = c.args in overwrite_none a.own.now a.at (Laid c)

pub settle-requires : goal.settle-requires
settle-requires c =
    let i : c.loop-k.k < c.args.n = omega arith in
    let x : nat_abs (value c.loop-k.own (c.args.at + c.loop-k.k)) ≤ 131070 = subst (λ (z : ℤ). nat_abs z ≤ 131070) (sym (untouched (goal.at.settle-requires c).At-loop-k i)) (c.requires.0.small c.loop-k.k i) in
    (le_trans (abs_read w32 (value c.loop-k.own (c.args.at + c.loop-k.k))) x, read_bound w32 c.crossed_at-sum.ensures (crossing_range c.requires.1 c.loop-k.k i), subst (λ (j : ℕ). nat_abs (to_z w32 (of_z w32 (value c.args.small.now j))) ≤ 2097152) (zero-add c.loop-k.k) (read_small 2097152 (omega arith) c.requires.2 c.loop-k.k i))

pub loop-k-preserved : goal.loop-k-preserved
unfolding settled_place
loop-k-preserved c =
    let a = c.args in
    let k = c.loop-k.k in
    let i : k < a.n = omega arith in
    let v : to_z w32 (of_z w32 (value c.loop-k.own (a.at + k))) ≡ value a.own.now (a.at + k) = ap (λ z. to_z w32 (of_z w32 z)) (untouched (goal.at.loop-k-preserved c).At-loop-k i) ∙ read_value (lit< tt) c.requires.0 k i in
    let q = read_is w32 c.crossed_at-sum.type_inv c.crossed_at-sum.ensures in
    let t : to_z w32 (of_z w32 (value a.small.now k)) ≡ value a.small.now k = subst (λ (j : ℕ). to_z w32 (of_z w32 (value a.small.now j)) ≡ value a.small.now j) (zero-add k) (read_value (lit< tt) c.requires.2 k i) in
    overwrite_step a.own.now a.at k (Laid (goal.at.loop-k-preserved c).Start) (a.at + k) refl c.loop-k.invariant (read_is w32 c.settle.type_inv c.settle.ensures ∙ (λ j. settled_two (to_z w32 (of_z w32 a.least)) (to_z w32 (of_z w32 a.most)) (v j) (q j) (t j))) (omega (arith, c.requires.0.inside))
