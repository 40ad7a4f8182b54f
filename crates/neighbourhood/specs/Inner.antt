-- Inner: what the code asks of a mosaic, and a line through a place as five numbers. Assumes nothing.
use Rattle.std.specs.Prelude.{◌≡◌, Bool, ◌&&◌, List, ℕ, ◌+◌, ◌*◌, ◌≤◌, leb, ltb, ℤ, pos, nat_abs, ◌+ℤ◌, ◌-ℤ◌, ◌*ℤ◌, length, get_or}
use Rattle.planes.specs.Planes.{Sizes}
use Rattle.neighbourhood.specs.Place.{greens, two_away}

-- a mosaic of w by h samples, of sizes that the call takes
pub record Mosaic (samples : List ℕ) (w h : ℕ) : Type 0 where
  pub sizes : Sizes 1 w h
  pub count : length samples ≡ w * h

-- whether place i of a line of n is two places or more from its ends
unfoldable pub inner : ℕ → ℕ → Bool
inner n i = leb 2 i && ltb (i + 2) n

-- five numbers, by the distance from the middle one
unfoldable pub line_of : List ℕ → ℤ → ℤ
line_of five i = pos (get_or five (nat_abs (i +ℤ pos 2)) 0)

-- half of along-line: four times the green by a line
unfoldable pub half_along : (ℤ → ℤ) → ℤ
half_along line = pos 2 *ℤ greens line +ℤ (pos 2 *ℤ line (pos 0) -ℤ two_away line)

-- the second difference in it is no farther from 0 than this, it no farther than twice this, and eight times a green than four times
abbrev pub most_detail : ℕ
most_detail = 262140

abbrev pub most_along : ℕ
most_along = 524280

abbrev pub most_greens : ℕ
most_greens = 1048560

-- a signed result r that is v, and no farther from 0 than `most`
pub record SmallResult (most : ℕ) (r v : ℤ) : Type 0 where
  pub is : r ≡ v
  pub small : nat_abs r ≤ most
