-- `sweep::settled_stage` meets its contract: its row, or none.
use mathlib.Core.Path.{◌≡◌, refl, ◌∙◌}
use mathlib.Core.List.{List}
use Prim.Native.Nat.{ℕ, ◌+◌, ◌≤◌}
use native.Mathlib.Omega.{arith}
use borrow.Author.Rules.{rules}
use lib.IntN.{ℤ, nat_abs}
use mir.Syntax.{w32}
use mir.Val.{to_z, of_z}
use mir.Facts.{to_z-of_z as back}
use Rattle.integers.proofs.Bounds.{fits_abs}
use Rattle.integers.specs.Lists.{overwrite}
use Rattle.planes.specs.Lists.{value}
use Rattle.details.specs.Details.{crossed, settled}
use Rattle.rings.specs.Rows.{row_at}
use Rattle.rings.specs.Stages.{reached}
use Rattle.rings.proofs.Stages.{row_worked, row_idle}
use Rattle.sweep.specs.Sweep.{settled_row}
use Rattle.sweep.proofs.settled_stage.Goals as goal

-- an end is passed on as it is, or as the machine reads it
read : {z : ℤ} → nat_abs z ≤ 131070 → to_z w32 (of_z w32 z) ≡ z
read {z} small = back (fits_abs w32 z (omega (arith, small)))

ruleset passed = (refl, read)

-- the same row between the ends that were passed on
between : (own : List ℤ) (at n : ℕ) (sum : ℕ → ℤ) {least most x y : ℤ} → x ≡ least → y ≡ most → overwrite own at n (λ k. settled x y (value own (at + k)) (sum k)) ≡ overwrite own at n (λ k. settled least most (value own (at + k)) (sum k))
between own at n sum e f = λ j. overwrite own at n (λ k. settled (e j) (f j) (value own (at + k)) (sum k))

pub returns-in-Some : goal.returns-in-Some
unfolding settled_row
returns-in-Some c =
    let a = c.args in
    let g = a.given in
    let at = row_at g c.in-Some.r in
    let near = a.range.near in
    row_worked 3 g a.t (search rules) a.own.now (row_at g) (settled_row g a.range.least a.range.most a.own.now a.apart.now a.together.now)
    (c.settle_line.ensures ∙ between a.own.now at g.width _ (search passed) (search passed) ∙ (λ j. overwrite a.own.now at g.width (λ k. settled a.range.least a.range.most (value a.own.now (at + k)) (crossed a.apart.now a.together.now (c.five_slots-starts.ensures j) k))))

pub returns-in_default : goal.returns-in_default
returns-in_default c =
    let a = c.args in
    let g = a.given in
    row_idle 3 g a.t (search rules) a.own.now (row_at g (reached 3 g.height a.t)) (settled_row g a.range.least a.range.most a.own.now a.apart.now a.together.now (reached 3 g.height a.t))
