-- `nested_floor::whole_part` meets its contract: the shift is the whole division.
use mathlib.Core.Path.{refl}
use mir.Syntax.{w32}
use Rattle.integers.proofs.Shifts.{shifted}
use Rattle.nested_floor.specs.NestedFloor.{whole}
use Rattle.nested_floor.proofs.whole_part.Goals as goal

pub returns : goal.returns
unfolding whole
returns s = shifted w32 _ s.ranges.z refl
