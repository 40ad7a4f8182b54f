-- `details::difference_line` meets its contract: after k turns, k places are laid down.
use mathlib.Core.Path.{refl, ◌∙◌, ap}
use Prim.Native.Nat.{ℕ, ◌+◌, ◌<◌}
use native.Mathlib.Omega.{arith}
use lib.Dec.{lit<}
use lib.IntN.{ℤ, ◌-ℤ◌}
use mir.Syntax.{w32}
use Rattle.integers.proofs.Lists.{overwrite_none, overwrite_step}
use Rattle.integers.proofs.Bounds.{read_is}
use Rattle.lines.proofs.Lines.{read_value}
use Rattle.details.specs.Details.{difference_line, guide_value}
use Rattle.details.proofs.difference_line.Goals as goal
use Rattle.details.proofs.difference_line.Goals.{Start}

-- what is laid down
abbrev Laid : goal.Start → ℕ → ℤ
Laid s = let a = s.args in difference_line a.own.now a.at a.guide.now a.from a.step

pub loop-k-init : goal.loop-k-init
loop-k-init c = let a = c.args in overwrite_none a.out.now a.to (Laid (goal.at.loop-k-init c).Start)

pub loop-k-preserved : goal.loop-k-preserved
unfolding difference_line guide_value
loop-k-preserved c =
    let a = c.args in
    let i : c.loop-k.k < a.n = omega arith in
    overwrite_step a.out.now a.to c.loop-k.k (Laid (goal.at.loop-k-preserved c).Start) (a.to + c.loop-k.k) refl c.loop-k.invariant (read_is w32 c.difference.type_inv c.difference.ensures ∙ ap (λ z. z -ℤ guide_value a.guide.now a.from a.step c.loop-k.k) (read_value (lit< tt) c.requires.0 c.loop-k.k i)) (omega arith)
