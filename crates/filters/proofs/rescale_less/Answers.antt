-- `filters::rescale_less` meets its contract: every partial sum fits, and the shift is the whole division.
use mathlib.Core.Path.{◌≡◌, sym, ◌∙◌, subst}
use Prim.Native.Nat.{◌≤◌}
use native.Mathlib.Omega.{arith}
use lib.IntN.{ℤ, pos, nat_abs, ◌+ℤ◌, ◌-ℤ◌, ◌*ℤ◌}
use lib.Signed.{shr_z}
use mir.Syntax.{w32}
use mir.Val.{to_z, of_z}
use mir.Facts.{to_z-of_z as back}
use Rattle.integers.specs.Numbers.{whole_divided, clamp}
use Rattle.integers.proofs.Bounds.{abs_sub, fits_abs, read_is, fits, bounds}
use Rattle.integers.proofs.Clamping.{clamp_bound}
use Rattle.integers.proofs.Shifts.{shifted}
use Rattle.filters.proofs.Quotients.{rescaled_from_least}
use Rattle.filters.proofs.rescale_less.Goals as goal
use Rattle.filters.proofs.rescale_less.Goals.{After-clipped}

pub overflow_mul-above : goal.overflow_mul-above
overflow_mul-above c = fits (search bounds depth 14) tt

pub overflow_sub-above : goal.overflow_sub-above
overflow_sub-above c = fits (search bounds depth 14) tt

pub overflow_sub-above-2 : goal.overflow_sub-above-2
overflow_sub-above-2 c = fits (search bounds depth 14) tt

pub overflow_add-above : goal.overflow_add-above
overflow_add-above c = fits (search bounds depth 14) tt

pub overflow_sub-most : goal.overflow_sub-most
overflow_sub-most c = fits (search bounds depth 14) tt

-- a number as the machine reads it
abbrev read : ℤ → ℤ
read z = to_z w32 (of_z w32 z)

-- the ends are
least_read : (c : goal.After-clipped) → read c.args.range.least ≡ c.args.range.least
least_read c = back (fits_abs w32 c.args.range.least (omega (arith, c.args.range.near.from)))

most_read : (c : goal.After-clipped) → read c.args.range.most ≡ c.args.range.most
most_read c = back (fits_abs w32 c.args.range.most (omega (arith, c.args.range.near.to)))

-- what is clipped, and the clip's upper end
above : (c : goal.After-clipped)
    → let a = c.args in
    read (read a.x +ℤ read (shr_z (read (read (pos 512 -ℤ read (pos 1024 *ℤ read a.range.least)) -ℤ read a.sum)) 1024))
    ≡ a.x +ℤ whole_divided (pos 512 -ℤ pos 1024 *ℤ a.range.least -ℤ a.sum) 1024
above c =
    back (overflow_add-above c.before) ∙ (λ i. back c.ranges.x i +ℤ shifted w32 1024 (overflow_sub-above-2 c.before) sum i)
  where
    times : read (pos 1024 *ℤ read c.args.range.least) ≡ pos 1024 *ℤ c.args.range.least
    times = back (overflow_mul-above c.before) ∙ (λ i. pos 1024 *ℤ least_read c i)

    sum : read (pos 512 -ℤ read (pos 1024 *ℤ read c.args.range.least)) -ℤ read c.args.sum ≡ pos 512 -ℤ pos 1024 *ℤ c.args.range.least -ℤ c.args.sum
    sum = λ i. (back (overflow_sub-above c.before) ∙ (λ j. pos 512 -ℤ times j)) i -ℤ back c.ranges.sum i

span : (c : goal.After-clipped) → read (read c.args.range.most -ℤ read c.args.range.least) ≡ c.args.range.most -ℤ c.args.range.least
span c = back (overflow_sub-most c.before) ∙ (λ i. most_read c i -ℤ least_read c i)

-- and what comes of them
clip : (c : goal.After-clipped)
    → let a = c.args in
    read c.clipped.result ≡ clamp (pos 0) (a.range.most -ℤ a.range.least) (a.x +ℤ whole_divided (pos 512 -ℤ pos 1024 *ℤ a.range.least -ℤ a.sum) 1024)
clip c = read_is w32 c.clipped.type_inv (c.clipped.ensures ∙ (λ i. clamp (pos 0) (span c i) (above c i)))

pub overflow_add-result : goal.overflow_add-result
overflow_add-result c =
    let a = c.args in
    let ends = a.range.near in
    let b : nat_abs (read c.clipped.result) ≤ 262140 = subst (λ (z : ℤ). nat_abs z ≤ 262140) (sym (clip c)) (clamp_bound (pos 0) (a.range.most -ℤ a.range.least) (omega arith) (omega (arith, abs_sub a.range.most a.range.least, ends.from, ends.to)) _) in
    fits (search bounds depth 14) tt

pub returns : goal.returns
returns c =
    let a = c.args in
    back (overflow_add-result c) ∙ (λ i. clip c i +ℤ least_read (goal.at.returns c).After-clipped i) ∙ rescaled_from_least a.range.least a.range.most a.x a.sum
