-- `details::outer_line` meets its contract: after k turns, k places are laid down.
use mathlib.Core.Path.{◌≡◌, refl, sym, ◌∙◌, subst}
use Prim.Native.Nat.{ℕ, ◌+◌, ◌*◌}
use native.Mathlib.Omega.{arith}
use lib.Dec.{lit<}
use lib.IntN.{ℤ}
use mir.Syntax.{w32}
use mir.Val.{to_z, of_z}
use mir.Facts.{to_z-of_z as back}
use borrow.Author.Rules.{rules}
use Rattle.integers.proofs.Lists.{overwrite_none, overwrite_step}
use Rattle.integers.proofs.Bounds.{read_is, read_bound}
use Rattle.filters.specs.Bank.{Distance, high_split}
use Rattle.filters.proofs.Ranges.{gain}
use Rattle.lines.specs.Lines.{three}
use Rattle.projection.specs.Fast.{excess}
use Rattle.details.specs.Details.{outer}
use Rattle.details.proofs.Details.{triple_small, triple_read, triple_range}
use Rattle.details.proofs.outer_line.Goals as goal
use Rattle.details.proofs.outer_line.Goals.{After-high_split-high, Start}

-- what is laid down, with the limit as the machine reads it
abbrev Laid : goal.Start → ℕ → ℤ
Laid s = let a = s.args in outer high_split (to_z w32 (of_z w32 a.limit)) a.d a.line.now

pub loop-k-init : goal.loop-k-init
loop-k-init c = let a = c.args in overwrite_none a.out.now a.at (Laid c)

pub high_split-high-requires : goal.high_split-high-requires
high_split-high-requires c =
    let small = triple_small high_split c.requires.1 c.loop-k.k c.loop-k-test.true 178956970 (omega arith) in
    search rules

-- the filter's value
value_is : (c : goal.After-high_split-high) → c.high_split-high.result ≡ three high_split c.args.line.now 0 c.args.d (2 * c.args.d) c.loop-k.k
value_is c = c.high_split-high.ensures ∙ triple_read high_split c.requires.1 c.loop-k.k c.loop-k-test.true (lit< tt)

pub excess-requires : goal.excess-requires
unfolding gain high_split
excess-requires c = (subst Distance (sym (back c.ranges.limit)) c.requires.0, read_bound w32 (value_is c) (triple_range high_split c.requires.1 c.loop-k.k c.loop-k-test.true))

pub loop-k-preserved : goal.loop-k-preserved
unfolding outer
loop-k-preserved c =
    let v = read_is w32 c.high_split-high.type_inv (value_is (goal.at.loop-k-preserved c).After-high_split-high) in
    overwrite_step c.args.out.now c.args.at c.loop-k.k (Laid (goal.at.loop-k-preserved c).Start) (c.args.at + c.loop-k.k) refl c.loop-k.invariant (read_is w32 c.excess.type_inv c.excess.ensures ∙ (λ i. excess (to_z w32 (of_z w32 c.args.limit)) (v i))) (omega arith)
