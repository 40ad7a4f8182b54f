-- `lines::pad_side` meets its contract: after k turns, k places of the side are laid down, and the middle is as it was.
use mathlib.Core.Path.{◌≡◌, refl, ◌∙◌, ap}
use mathlib.Core.List.{List}
use Prim.Native.Nat.{ℕ, ◌+◌}
use native.Mathlib.Omega.{arith}
use lib.IntN.{ℤ}
use mir.Syntax.{w32}
use mir.Val.{to_z, of_z}
use borrow.Author.Rules.{rules}
use Rattle.integers.proofs.Lists.{overwrite_none, overwrite_step}
use Rattle.planes.specs.Lists.{value}
use Rattle.lines.specs.Lines.{meant}
use Rattle.lines.proofs.Lines.{outside}
use Rattle.lines.proofs.pad_side.Goals as goal
use Rattle.lines.proofs.pad_side.Goals.{Start}

-- what is laid down
abbrev Side : goal.Start → ℕ → ℤ
Side s = let a = s.args in λ j. value a.line.now (meant a.n a.pad (a.from + j))

pub loop-k-init : goal.loop-k-init
loop-k-init c = overwrite_none c.args.line.now c.args.from (Side c)

pub loop-k-preserved : goal.loop-k-preserved
unfolding meant
loop-k-preserved c =
    let a = c.args in
    let r = c.reflected_before in
    let k = c.loop-k.k in
    let x = value c.loop-k.line (a.pad + r.result) in
    let same : to_z w32 (of_z w32 x) ≡ x = search rules in
    overwrite_step a.line.now a.from k (Side (goal.at.loop-k-preserved c).Start) (a.from + k) refl c.loop-k.invariant (same ∙ ap (λ (m : List ℤ). value m (a.pad + r.result)) c.loop-k.invariant ∙ outside a.line.now a.from k (Side (goal.at.loop-k-preserved c).Start) (a.pad + r.result) (omega arith) (λ h. omega (arith, c.requires.by_index r.result r.ensures.1 h)) ∙ ap (λ (j : ℕ). value a.line.now (a.pad + j)) r.ensures.0) (omega arith)
