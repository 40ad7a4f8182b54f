-- `bank::rounded_quotient` meets its contract on every number: each shift is a whole division, and one more fits.
use mathlib.Core.Path.{◌≡◌, refl, ◌∙◌, ap}
use Prim.Native.Nat.{◌≤◌}
use native.Mathlib.Omega.{arith}
use lib.Dec.{lit<}
use lib.IntN.{ℤ, nat_abs, ◌+ℤ◌}
use mir.Syntax.{w32}
use Rattle.integers.proofs.Bounds.{abs_mag, fits, bounds}
use Rattle.integers.proofs.Shifts.{shifted, rounded_by_halves}
use Rattle.bank.proofs.rounded_quotient.Goals as goal

pub overflow_add-result : goal.overflow_add-result
overflow_add-result s =
    let most : nat_abs s.args.sum ≤ 2147483648 = omega (arith, abs_mag s.args.sum, s.ranges.sum.sfits) in
    fits (search bounds depth 14) tt

plus : {x y : ℤ} (k : ℤ) → x ≡ y → x +ℤ k ≡ y +ℤ k
plus k e = ap (λ (z : ℤ). z +ℤ k) e

pub returns : goal.returns
returns s =
    shifted w32 _ (overflow_add-result s) (plus _ (shifted w32 _ s.ranges.sum refl))
    ∙ rounded_by_halves _ s.args.sum (lit< tt)
