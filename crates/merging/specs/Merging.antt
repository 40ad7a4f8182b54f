-- The second level's joined parts, taken apart by 1,024, as they are merged into the first level's. Assumes nothing.
use Rattle.std.specs.Prelude.{List, ℕ, ◌+◌, ℤ, ◌+ℤ◌, ◌-ℤ◌}
use Rattle.planes.specs.Lists.{value}
use Rattle.filters.specs.Bank.{weighted, low_join, high_join}
use Rattle.lines.specs.declared.Five.{Five}
use Rattle.lines.specs.Lines.{spaced, five}
use Rattle.details.specs.Details.{crossed}
use Rattle.nested_floor.specs.NestedFloor.{settled_two}

-- five values of two lists in turn, of each its part by f, through the high join taps
unfoldable pub crossed_of : (ℤ → ℤ) → List ℤ → List ℤ → Five → ℕ → ℤ
crossed_of f x y starts k =
    weighted high_join (f (value x (starts.a + k))) (f (value y (starts.b + k))) (f (value x (starts.c + k))) (f (value y (starts.d + k))) (f (value x (starts.e + k)))

-- The low join taps are the opposite of the high ones at the even places, and the same at the odd ones. So a value that is to go through the low
-- taps is taken away from what stands at the even places, and added to what stands at the odd ones.
unfoldable pub low_away : List ℤ → ℕ → List ℤ → ℕ → ℤ
low_away part from line k = value part (from + k) -ℤ five low_join line (spaced 1) k

unfoldable pub low_added : List ℤ → ℕ → List ℤ → ℕ → ℤ
low_added part from line k = value part (from + k) +ℤ five low_join line (spaced 1) k

-- a place settled from five places of the merged parts and one of the rests
unfoldable pub settled_place : ℤ → ℤ → List ℤ → ℕ → List ℤ → List ℤ → Five → List ℤ → ℕ → ℤ
settled_place least most own at apart together starts small k = settled_two least most (value own (at + k)) (crossed apart together starts k) (value small k)
