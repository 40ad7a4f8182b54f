-- `details::outer_lines` meets its contract: after k turns, k places of both are laid down.
use mathlib.Core.Path.{◌≡◌, refl, sym, ◌∙◌, ap, subst}
use Prim.Native.Nat.{ℕ, ◌+◌, ◌*◌, ◌≤◌}
use native.Mathlib.Omega.{arith}
use lib.Dec.{lit<}
use lib.IntN.{ℤ, nat_abs, ◌+ℤ◌, ◌-ℤ◌}
use mir.Syntax.{w32}
use mir.Val.{to_z, of_z}
use mir.Facts.{to_z-of_z as back}
use borrow.Author.Rules.{rules}
use Rattle.integers.proofs.Lists.{overwrite_none, overwrite_step}
use Rattle.integers.proofs.Bounds.{fits, bounds, read_is, read_bound}
use Rattle.filters.specs.Bank.{Distance, low_split, high_split}
use Rattle.filters.proofs.Ranges.{gain}
use Rattle.lines.specs.Lines.{three}
use Rattle.projection.specs.Fast.{excess}
use Rattle.details.specs.Details.{outer, outer_minus, outer_plus}
use Rattle.details.proofs.Details.{triple_small, triple_read, triple_range, outer_range}
use Rattle.details.proofs.outer_lines.Goals as goal
use Rattle.details.proofs.outer_lines.Goals.{After-high_split, After-low_split, After-excess-p, Start}

-- what is laid down, with the limit as the machine reads it
abbrev Minus : goal.Start → ℕ → ℤ
Minus s = let a = s.args in outer_minus (to_z w32 (of_z w32 a.limit)) a.d a.line.now

abbrev Plus : goal.Start → ℕ → ℤ
Plus s = let a = s.args in outer_plus (to_z w32 (of_z w32 a.limit)) a.d a.line.now

pub loop-k-init : goal.loop-k-init
loop-k-init c = let a = c.args in (overwrite_none a.minus.now a.at (Minus c), overwrite_none a.plus.now a.at (Plus c))

pub high_split-requires : goal.high_split-requires
high_split-requires c =
    let small = triple_small high_split c.requires.1 c.loop-k.k c.loop-k-test.true 178956970 (omega arith) in
    search rules

pub low_split-requires : goal.low_split-requires
low_split-requires c =
    let small = triple_small low_split c.requires.1 c.loop-k.k c.loop-k-test.true 178956970 (omega arith) in
    search rules

-- both filters' values
high_is : (c : goal.After-high_split) → c.high_split.result ≡ three high_split c.args.line.now 0 c.args.d (2 * c.args.d) c.loop-k.k
high_is c = c.high_split.ensures ∙ triple_read high_split c.requires.1 c.loop-k.k c.loop-k-test.true (lit< tt)

low_is : (c : goal.After-low_split) → c.low_split.result ≡ three low_split c.args.line.now 0 c.args.d (2 * c.args.d) c.loop-k.k
low_is c = c.low_split.ensures ∙ triple_read low_split c.requires.1 c.loop-k.k c.loop-k-test.true (lit< tt)

pub excess-q-requires : goal.excess-q-requires
unfolding gain high_split
excess-q-requires c = (subst Distance (sym (back c.ranges.limit)) c.requires.0, read_bound w32 (high_is c) (triple_range high_split c.requires.1 c.loop-k.k c.loop-k-test.true))

pub excess-p-requires : goal.excess-p-requires
unfolding gain low_split
excess-p-requires c = (subst Distance (sym (back c.ranges.limit)) c.requires.0, read_bound w32 (low_is c) (triple_range low_split c.requires.1 c.loop-k.k c.loop-k-test.true))

-- what of them lies outside, as the machine reads it
module _ (c : goal.After-excess-p) where
  abbrev limit : ℤ
  limit = to_z w32 (of_z w32 c.args.limit)

  q_is : to_z w32 (of_z w32 c.excess-q.result) ≡ outer high_split limit c.args.d c.args.line.now c.loop-k.k
  unfolding outer
  q_is = read_is w32 c.excess-q.type_inv c.excess-q.ensures ∙ (λ i. excess limit (read_is w32 c.high_split.type_inv (high_is c.before.before.before) i))

  p_is : to_z w32 (of_z w32 c.excess-p.result) ≡ outer low_split limit c.args.d c.args.line.now c.loop-k.k
  unfolding outer
  p_is = read_is w32 c.excess-p.type_inv c.excess-p.ensures ∙ (λ i. excess limit (read_is w32 c.low_split.type_inv (low_is c.before) i))

  small : (nat_abs (to_z w32 (of_z w32 c.excess-q.result)) ≤ 536870912) × (nat_abs (to_z w32 (of_z w32 c.excess-p.result)) ≤ 536870912)
  unfolding gain high_split low_split
  small =
      let sign = (subst Distance (sym (back c.ranges.limit)) c.requires.0).sign in
      let i = c.loop-k-test.true in
      (omega (arith, ap nat_abs q_is, outer_range high_split _ sign c.requires.1 c.loop-k.k i), omega (arith, ap nat_abs p_is, outer_range low_split _ sign c.requires.1 c.loop-k.k i))

pub overflow_sub-minus : goal.overflow_sub-minus
overflow_sub-minus c = let q = small c in fits (search bounds depth 14) tt

pub overflow_add-plus-in-loop-k : goal.overflow_add-plus-in-loop-k
overflow_add-plus-in-loop-k c = let q = small c in fits (search bounds depth 14) tt

pub loop-k-preserved : goal.loop-k-preserved
unfolding outer_minus outer_plus
loop-k-preserved c = (
  overwrite_step c.args.minus.now c.args.at c.loop-k.k (Minus (goal.at.loop-k-preserved c).Start) (c.args.at + c.loop-k.k) refl c.loop-k.invariant.0 (back (overflow_sub-minus c) ∙ (λ i. q_is c i -ℤ p_is c i)) (omega arith),
  overwrite_step c.args.plus.now c.args.at c.loop-k.k (Plus (goal.at.loop-k-preserved c).Start) (c.args.at + c.loop-k.k) refl c.loop-k.invariant.1 (back (overflow_add-plus-in-loop-k c) ∙ (λ i. q_is c i +ℤ p_is c i)) (omega arith),
)
