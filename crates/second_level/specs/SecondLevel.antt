-- What the stages of two levels make of rows that stand in rings. Assumes nothing.
use Rattle.std.specs.Prelude.{List, ℕ, ◌+◌, ℤ, ◌+ℤ◌, ◌-ℤ◌}
use Rattle.planes.specs.Lists.{value}
use Rattle.filters.specs.Bank.{along, low_split, low_join}
use Rattle.lines.specs.Lines.{three, five}
use Rattle.details.specs.Details.{crossed}
use Rattle.nested_floor.specs.NestedFloor.{whole, rest, settled_two}
use Rattle.merging.specs.Merging.{crossed_of}
use Rattle.rings.specs.declared.Given.{Given}
use Rattle.rings.specs.Rows.{slot, row_at, five_slots}

-- a row of band 1, whatever its number: from the padded line that is low along the columns
abbrev pub band_row : List ℤ → ℕ → ℕ → ℤ
band_row low r = three low_split low 0 1 2

-- a row of the second level's joined sum, of each value its part by f; through the low join taps along the row
abbrev pub low_row : (ℤ → ℤ) → Given → List ℤ → List ℤ → ℕ → ℕ → ℤ
low_row f g apart2 together2 r = along low_join 1 g.width (crossed_of f apart2 together2 (five_slots 9 2 g r))

-- the whole parts, taken away from the first level's row where it stands at the even taps of the last join, and added where at the odd ones
abbrev pub apart_row : Given → List ℤ → List ℤ → List ℤ → ℕ → ℕ → ℤ
apart_row g apart1 apart2 together2 r k = value apart1 (slot 7 g.width r + k) -ℤ low_row whole g apart2 together2 r k

abbrev pub together_row : Given → List ℤ → List ℤ → List ℤ → ℕ → ℕ → ℤ
together_row g together1 apart2 together2 r k = value together1 (slot 7 g.width r + k) +ℤ low_row whole g apart2 together2 r k

-- and the rests
abbrev pub rest_row : Given → List ℤ → List ℤ → ℕ → ℕ → ℤ
rest_row g apart2 together2 r = low_row rest g apart2 together2 r

-- a row of the plane
unfoldable pub settled_row : Given → ℤ → ℤ → List ℤ → List ℤ → List ℤ → List ℤ → ℕ → ℕ → ℤ
settled_row g least most own apart together rests r c =
    settled_two least most (value own (row_at g r + c)) (crossed apart together (five_slots 5 1 g r) c) (five low_join rests (five_slots 5 1 g r) c)
