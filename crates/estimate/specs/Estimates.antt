-- Document 01, "First estimates", on a plane: the three planes of a mosaic. Assumes nothing.
use Rattle.std.specs.Prelude.{Bool, not, ℕ}
use Rattle.planes.specs.Layout.{by_parity}
use Rattle.planes.specs.Planes.{Planes, plane_of}
use Rattle.turns.specs.Operations.{Operation, Around, nearby}
use Rattle.neighbourhood.specs.Place.{green_at, bilinear}
use Rattle.neighbourhood.specs.declared.Frame.{Frame}

-- at a place, by whether the place's row, and its column, have red's parity; blue has the other parity in both
unfoldable pub estimate_at : ℕ → Bool → Bool → Around ℕ → Planes ℕ
estimate_at top on_row on_column n = record {
  red = bilinear on_row on_column n;
  green = green_at top (by_parity on_row on_column) n;
  blue = bilinear (not on_row) (not on_column) n;
}

-- at every place, from its reflected neighbours
unfoldable pub estimate : ℕ → Operation ℕ (Planes ℕ)
estimate top = nearby (estimate_at top)

-- of a frame as the code has it
abbrev pub estimates : ℕ → Frame → ℕ → ℕ → Planes ℕ
estimates top f = estimate top f.shape.width f.shape.height f.shape.layout (plane_of 0 f.shape.width f.samples.now)
