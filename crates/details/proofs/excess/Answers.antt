-- `details::excess` meets its contract: a sum of two, which is no larger than the number.
use mathlib.Core.Path.{◌≡◌, sym, ◌∙◌, subst}
use Prim.Native.Nat.{◌<◌}
use native.Mathlib.Omega.{arith}
use lib.IntN.{ℤ, pos, nat_abs, ◌+ℤ◌, ◌-ℤ◌}
use mir.Syntax.{w32}
use mir.Val.{to_z, of_z}
use mir.Facts.{to_z-of_z as back}
use Rattle.std.specs.Int.{int_max, int_min}
use Rattle.integers.proofs.Bounds.{fits, bounds, fits_abs, read_is}
use Rattle.projection.specs.Fast.{excess}
use Rattle.projection.proofs.Outside.{excess_bound}
use Rattle.details.proofs.Details.{excess_parts}
use Rattle.details.proofs.excess.Goals as goal
use Rattle.details.proofs.excess.Goals.{After-min}

pub overflow_sub-z : goal.overflow_sub-z
overflow_sub-z c = fits (search bounds depth 14) tt

pub overflow_add-z : goal.overflow_add-z
overflow_add-z c = fits (search bounds depth 14) tt

-- the two, as the machine reads them
sum_is : (c : goal.After-min) → to_z w32 (of_z w32 c.max.result) +ℤ to_z w32 (of_z w32 c.min.result) ≡ excess c.args.limit c.args.z
sum_is c =
    let above = back (overflow_sub-z c.before.before) ∙ (λ i. back c.ranges.z i -ℤ back c.ranges.limit i) in
    let below = back (overflow_add-z c.before) ∙ (λ i. back c.ranges.z i +ℤ back c.ranges.limit i) in
    (λ i. (read_is w32 c.max.type_inv c.max.ensures.value ∙ (λ j. int_max (above j) (pos 0))) i +ℤ (read_is w32 c.min.type_inv c.min.ensures.value ∙ (λ j. int_min (below j) (pos 0))) i)
    ∙ excess_parts c.args.limit c.args.z c.requires.0.sign

pub overflow_add-result : goal.overflow_add-result
overflow_add-result c = fits_abs w32 _ (subst (λ (z : ℤ). nat_abs z < 2147483648) (sym (sum_is c)) (omega (arith, excess_bound c.args.limit c.args.z c.requires.0.sign, c.requires.1)))

pub returns : goal.returns
returns c = back (overflow_add-result c) ∙ sum_is c
