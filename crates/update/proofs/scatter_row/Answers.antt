-- `update::scatter_row` meets its contract: after k turns, k numbers are put.
use mathlib.Core.Path.{◌≡◌, refl, ◌∙◌, ap}
use Prim.Native.Nat.{ℕ, ◌+◌, ◌*◌}
use lib.IntN.{nat_abs}
use mir.Syntax.{w32}
use mir.Val.{to_z, of_z}
use borrow.Author.Rules.{rules}
use Rattle.planes.specs.Lists.{value}
use Rattle.planes.proofs.Places.{put_none, put_step}
use Rattle.update.proofs.scatter_row.Goals as goal
use Rattle.update.proofs.scatter_row.Goals.{Start}

-- where it is put, and what
abbrev At : goal.Start → ℕ → ℕ
At s = λ j. s.args.from + 2 * j

abbrev Row : goal.Start → ℕ → ℕ
Row s = λ j. nat_abs (value s.args.work.now (s.args.at + j))

pub loop-k-init : goal.loop-k-init
loop-k-init c = let s = (goal.at.loop-k-init c).Start in put_none c.args.green.now (At s) (Row s)

pub loop-k-preserved : goal.loop-k-preserved
loop-k-preserved c =
    let s = (goal.at.loop-k-preserved c).Start in
    let x = value c.args.work.now (c.args.at + c.loop-k.k) in
    let same : to_z w32 (of_z w32 x) ≡ x = search rules in
    put_step c.args.green.now c.loop-k.k (At s) (Row s) (c.args.from + 2 * c.loop-k.k) refl c.loop-k.invariant (c.narrowed.ensures ∙ ap nat_abs same)
