-- A colour's small plane in the work buffer, as the update's inner functions take it. Assumes nothing.
use Rattle.std.specs.Prelude.{List, ℕ, ℤ, pos}
use Rattle.planes.specs.Planes.{plane_of}
use Rattle.planes.specs.Places.{half}
use Rattle.work_buffer.specs.Buffer.{with_plane}
use Rattle.update.specs.Update.{small_plane, mixed}

-- what is put at the places of the colour with these parities, as a plane of them
unfoldable pub small_mixed : ℕ → ℕ → ℕ → ℕ → ℕ → List ℕ → List ℕ → ℕ → ℕ → ℕ
small_mixed top w h a b mosaic green =
    mixed top (half w b) (half h a) (small_plane a b (λ i j. pos (plane_of 0 w green i j))) (small_plane a b (λ i j. pos (plane_of 0 w mosaic i j)))

-- a work buffer that holds it in its first numbers, row by row
unfoldable pub with_mixed : ℕ → ℕ → ℕ → ℕ → ℕ → List ℕ → List ℕ → List ℤ → List ℤ
with_mixed top w h a b mosaic green work = with_plane (half w b) (half h a) (λ i j. pos (small_mixed top w h a b mosaic green i j)) work
