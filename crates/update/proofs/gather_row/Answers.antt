-- `update::gather_row` meets its contract: after k turns, k samples are laid down.
use mathlib.Core.Path.{◌≡◌, refl, ◌∙◌, ap}
use Prim.Native.Nat.{ℕ, ◌+◌, ◌*◌}
use native.Mathlib.Omega.{arith}
use lib.IntN.{ℤ}
use lib.ListN.{length}
use mir.Syntax.{w32}
use Rattle.integers.specs.Lists.{overwrite}
use Rattle.integers.proofs.Lists.{overwrite_none, overwrite_step, overwrite_all}
use Rattle.integers.proofs.Bounds.{read_is}
use Rattle.planes.specs.Lists.{sample}
use Rattle.update.proofs.gather_row.Goals as goal
use Rattle.update.proofs.gather_row.Goals.{Start}

-- what is laid down
abbrev Row : goal.Start → ℕ → ℤ
Row s = let a = s.args in λ j. sample a.green.now (a.from + 2 * j)

pub loop-k-init : goal.loop-k-init
loop-k-init c = overwrite_none c.args.row.now 0 (Row (goal.at.loop-k-init c).Start)

pub loop-k-preserved : goal.loop-k-preserved
loop-k-preserved c =
    let l = c.loop-k in
    overwrite_step c.args.row.now 0 l.k (Row (goal.at.loop-k-preserved c).Start) l.k (omega arith) l.invariant (unfold sample in read_is w32 c.from.type_inv c.from.ensures) (omega arith)

pub returns : goal.returns
returns c =
    let r = c.args.row.now in
    let s = (goal.at.returns c).Start in
    let all : c.loop-k.k ≡ length r = omega arith in
    c.loop-k.invariant ∙ ap (λ (k : ℕ). overwrite r 0 k (Row s)) all ∙ overwrite_all r (length r) (Row s) refl
