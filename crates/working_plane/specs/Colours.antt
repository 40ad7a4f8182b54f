-- A colour's rounds as the inner functions take them: at one level or two, its places by value, the ceiling, and mosaic and green in lists.
-- Assumes nothing.
use Rattle.std.specs.Prelude.{Bool, List, ℕ, ◌-◌, ◌≤◌, ◌<◌, ℤ, length, ◌≤ℤ◌}
use Rattle.planes.specs.Planes.{listing, plane_of}
use Rattle.planes.specs.Lists.{value}
use Rattle.projection.specs.Projection.{limits_of}
use Rattle.rings.specs.declared.Given.{Given}
use Rattle.working_plane.specs.Rounds.{Round, least_kept, most_kept, rewritten}
use Rattle.working_plane.specs.declared.Colour.{Colour}

abbrev pub round_of : Bool → Colour → ℕ → List ℕ → List ℕ → Round
round_of two k top mosaic green = record {
  two = two;
  top = top;
  limits = limits_of k.threshold;
  width = k.width;
  height = k.height;
  row = k.row;
  column = k.column;
  mosaic = plane_of 0 k.width mosaic;
  green = plane_of 0 k.width green;
}

-- what the projection is given of it: the working plane stands first in its list, green in a list of its own
abbrev pub given : ℕ → ℕ → ℤ → Given
given w h limit = record { at = 0; from = 0; down = w; across = 1; width = w; height = h; limit = limit }

-- the other colour of red and blue: "blue has the other parity in row and in column"
abbrev pub other : Colour → Colour
other k = record { width = k.width; height = k.height; row = 1 - k.row; column = 1 - k.column; threshold = k.threshold }

-- a colour's list of samples after n rounds
abbrev pub rewritten_list : Bool → Colour → ℕ → ℕ → List ℕ → List ℕ → List ℕ → List ℕ
rewritten_list two k top n mosaic green plane = listing k.width k.height (rewritten n (round_of two k top mosaic green) (plane_of 0 k.width plane))

-- ---- what the code asks of a working plane
-- a number that one of samples up to top keeps
abbrev pub KeptTo : ℕ → ℤ → Type 0
KeptTo top z = (least_kept top ≤ℤ z) × (z ≤ℤ most_kept top)

-- n numbers stand first in the list, each such a number for samples of 16 bits
pub record KeptPlane (l : List ℤ) (n : ℕ) : Type 0 where
  pub inside : n ≤ length l
  pub each : (k : ℕ) → k < n → KeptTo 65535 (value l k)
