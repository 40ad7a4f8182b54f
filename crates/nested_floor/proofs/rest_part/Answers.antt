-- `nested_floor::rest_part` meets its contract: the whole part fits 1,024 times, and the difference too.
use Prim.Native.Nat.{◌≤◌}
use lib.IntN.{nat_abs}
use mir.Syntax.{w32}
use mir.Val.{to_z, of_z}
use mir.Facts.{to_z-of_z as back}
use Rattle.integers.proofs.Bounds.{fits, bounds, read_is, read_bound}
use Rattle.nested_floor.specs.NestedFloor.{rest}
use Rattle.nested_floor.proofs.NestedFloor.{whole_bound}
use Rattle.nested_floor.proofs.rest_part.Goals as goal
use Rattle.nested_floor.proofs.rest_part.Goals.{After-whole_part}

small : (c : goal.After-whole_part) → nat_abs (to_z w32 (of_z w32 c.whole_part.result)) ≤ 786432
small c = read_bound w32 c.whole_part.ensures (whole_bound (search bounds depth 14) 786432 tt)

pub overflow_mul-result : goal.overflow_mul-result
overflow_mul-result c = let q = small c in fits (search bounds depth 14) tt

pub overflow_sub-result : goal.overflow_sub-result
overflow_sub-result c = let q = small c in fits (search bounds depth 14) tt

pub returns : goal.returns
unfolding rest
returns c = rw (back (overflow_sub-result c), back (overflow_mul-result c), read_is w32 c.whole_part.type_inv c.whole_part.ensures, back c.ranges.z)
