-- Where a colour's samples stand in a frame's list, as the inner functions take them. Assumes nothing.
use Rattle.std.specs.Prelude.{ℕ, ◌+◌, ◌*◌}
use Rattle.planes.specs.Places.{half}
use Rattle.work_buffer.specs.declared.Places.{Places}

-- in a frame of w by h, by the parities of the colour's rows and columns
abbrev pub places_of : ℕ → ℕ → ℕ → ℕ → Places
places_of w h row column = record { from = row * w + column; down = 2 * w; columns = half w column; rows = half h row }
