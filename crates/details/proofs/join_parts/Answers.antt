-- `details::join_parts` meets its contract: after k turns, k places of both are laid down.
use mathlib.Core.Path.{◌≡◌, refl, ◌∙◌}
use Prim.Native.Nat.{ℕ, ◌+◌, ◌≤◌, ◌<◌}
use native.Mathlib.Omega.{arith}
use lib.IntN.{ℤ, nat_abs, ◌+ℤ◌, ◌-ℤ◌}
use mir.Syntax.{w32}
use mir.Val.{to_z, of_z}
use mir.Facts.{to_z-of_z as back}
use Rattle.integers.proofs.Lists.{overwrite_none, overwrite_step}
use Rattle.integers.proofs.Bounds.{fits, bounds, read_is, read_bound}
use Rattle.lines.specs.Lines.{spaced}
use Rattle.details.specs.Details.{crossed, joined_apart, joined_together}
use Rattle.details.proofs.Details.{crossing_range}
use Rattle.details.proofs.join_parts.Goals as goal
use Rattle.details.proofs.join_parts.Goals.{After-crossed_at-q, Start}

-- what is laid down
abbrev Apart : goal.Start → ℕ → ℤ
Apart s = let a = s.args in joined_apart a.d a.parts.now a.minus.now a.plus.now

abbrev Together : goal.Start → ℕ → ℤ
Together s = let a = s.args in joined_together a.d a.parts.now a.minus.now a.plus.now

-- both sums, along places that are d apart
sums : (c : goal.After-crossed_at-q)
    → let a = c.args in
    (c.crossed_at-p.result ≡ crossed a.parts.now a.parts.now (spaced a.d) c.loop-k.k) × (c.crossed_at-q.result ≡ crossed a.minus.now a.plus.now (spaced a.d) c.loop-k.k)
sums c =
    let a = c.args in
    let e = c.spaced-starts.ensures in
    (c.crossed_at-p.ensures ∙ (λ j. crossed a.parts.now a.parts.now (e j) c.loop-k.k), c.crossed_at-q.ensures ∙ (λ j. crossed a.minus.now a.plus.now (e j) c.loop-k.k))

-- and small
small : (c : goal.After-crossed_at-q) → (nat_abs (to_z w32 (of_z w32 c.crossed_at-p.result)) ≤ 805306368) × (nat_abs (to_z w32 (of_z w32 c.crossed_at-q.result)) ≤ 805306368)
small c =
    let i : c.loop-k.k < c.args.n = omega arith in
    (read_bound w32 (sums c).0 (crossing_range c.requires.crossing.0 c.loop-k.k i), read_bound w32 (sums c).1 (crossing_range c.requires.crossing.1 c.loop-k.k i))

pub loop-k-init : goal.loop-k-init
loop-k-init c =
    let a = c.args in
    let s = (goal.at.loop-k-init c).Start in (overwrite_none a.apart.now a.at (Apart s), overwrite_none a.together.now a.at (Together s))

pub overflow_sub-apart : goal.overflow_sub-apart
overflow_sub-apart c = let q = small c in fits (search bounds depth 14) tt

pub overflow_add-together-in-loop-k : goal.overflow_add-together-in-loop-k
overflow_add-together-in-loop-k c = let q = small c in fits (search bounds depth 14) tt

pub loop-k-preserved : goal.loop-k-preserved
unfolding joined_apart joined_together
loop-k-preserved c =
    let both = sums (goal.at.loop-k-preserved c).After-crossed_at-q in
    let p = read_is w32 c.crossed_at-p.type_inv both.0 in
    let q = read_is w32 c.crossed_at-q.type_inv both.1 in (
      overwrite_step c.args.apart.now c.args.at c.loop-k.k (Apart (goal.at.loop-k-preserved c).Start) (c.args.at + c.loop-k.k) refl c.loop-k.invariant.0 (back (overflow_sub-apart c) ∙ (λ i. q i -ℤ p i)) (omega arith),
      overwrite_step c.args.together.now c.args.at c.loop-k.k (Together (goal.at.loop-k-preserved c).Start) (c.args.at + c.loop-k.k) refl c.loop-k.invariant.1 (back (overflow_add-together-in-loop-k c) ∙ (λ i. q i +ℤ p i)) (omega arith),
    )
