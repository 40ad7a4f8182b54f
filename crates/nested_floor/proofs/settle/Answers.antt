-- `nested_floor::settle` meets its contract: no sum wraps, and the quotient by 2^20 is taken as two by 1,024.
use mathlib.Core.Path.{◌∙◌}
use Prim.Native.Nat.{◌≤◌}
use lib.IntN.{nat_abs}
use mir.Syntax.{w32}
use mir.Val.{to_z, of_z}
use mir.Facts.{to_z-of_z as back}
use Rattle.integers.proofs.Bounds.{fits, bounds, read_is, read_bound}
use Rattle.nested_floor.specs.NestedFloor.{whole}
use Rattle.nested_floor.proofs.NestedFloor.{whole_bound, settled_by}
use Rattle.nested_floor.proofs.settle.Goals as goal
use Rattle.nested_floor.proofs.settle.Goals.{After-whole_part-carried, Start}

pub overflow_sub-small : goal.overflow_sub-small
overflow_sub-small c = fits (search bounds depth 14) tt

-- what is carried is small
little : (c : goal.After-whole_part-carried) → nat_abs (to_z w32 (of_z w32 c.whole_part-carried.result)) ≤ 4096
little c = read_bound w32 c.whole_part-carried.ensures (whole_bound (search bounds depth 14) 4096 tt)

pub overflow_mul-x : goal.overflow_mul-x
overflow_mul-x c = fits (search bounds depth 14) tt

pub overflow_sub-x : goal.overflow_sub-x
overflow_sub-x c = fits (search bounds depth 14) tt

pub overflow_add-x : goal.overflow_add-x
overflow_add-x c = let q = little c in fits (search bounds depth 14) tt

pub overflow_add-x-2 : goal.overflow_add-x-2
overflow_add-x-2 c = let q = little c in fits (search bounds depth 14) tt

pub returns : goal.returns
unfolding whole
returns c =
    let a = c.args in
    read_is w32 c.clipped.type_inv c.clipped.ensures
    ∙ rw (read_is w32 c.whole_part-brought.type_inv c.whole_part-brought.ensures, back (overflow_add-x-2 (goal.at.returns c).After-whole_part-carried), back (overflow_add-x (goal.at.returns c).After-whole_part-carried), back (overflow_sub-x (goal.at.returns c).After-whole_part-carried), back (overflow_mul-x (goal.at.returns c).After-whole_part-carried), read_is w32 c.whole_part-carried.type_inv c.whole_part-carried.ensures, back (overflow_sub-small (goal.at.returns c).Start), back c.ranges.least, back c.ranges.most, back c.ranges.x, back c.ranges.sum, back c.ranges.small)
    (settled_by a.least a.most a.x a.sum a.small)
