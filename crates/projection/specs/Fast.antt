-- The projection as code goes: from a plane's sums is taken what the details of its difference to the guide have outside the limit.
-- Assumes nothing.
use Rattle.std.specs.Prelude.{ℕ, ◌*◌, ℤ, pos, neg_ℤ, ◌+ℤ◌, ◌-ℤ◌}
use Rattle.integers.specs.Numbers.{clamp}
use Rattle.border.specs.Border.{reflect}
use Rattle.filters.specs.Bank.{Taps, weighted, along, Bands, split, join, low_split, high_split, low_join, high_join}
use Rattle.projection.specs.Projection.{low_band, over_level, Limits}

-- the part of z outside −limit..limit
unfoldable pub excess : ℤ → ℤ → ℤ
excess limit z = z -ℤ clamp (neg_ℤ limit) limit z

-- no band 1; in bands 2, 3 and 4 the part outside
unfoldable pub excess_details : ℤ → Bands ℤ → Bands ℤ
excess_details limit b = record {
  band1 = pos 0;
  band2 = excess limit b.band2;
  band3 = excess limit b.band3;
  band4 = excess limit b.band4;
}

-- how far a plane is from the guide, place by place
unfoldable pub difference : (ℕ → ℕ → ℤ) → (ℕ → ℕ → ℤ) → ℕ → ℕ → ℤ
difference own guide r c = own r c -ℤ guide r c

-- what the joined sum loses, from that difference: at one level what its details have outside the limit, joined
abbrev pub lost_sum : ℤ → ℕ → ℕ → ℕ → (ℕ → ℕ → ℤ) → ℕ → ℕ → ℤ
lost_sum limit d w h apart = join d w h (λ i j. excess_details limit (split d w h apart i j))

-- and at two
unfoldable pub two_level_lost : Limits → ℕ → ℕ → (ℕ → ℕ → ℤ) → ℕ → ℕ → ℤ
two_level_lost limits w h apart =
    join 1 w h (λ i j. over_level (lost_sum limits.second 2 w h (low_band w h apart) i j) (excess_details limits.first (split 1 w h apart i j)))

-- ---- row by row: along a line of n, reflected at its border, with taps d places apart
-- what of a split filter's value lies outside the limit
unfoldable pub outer_part : Taps → ℤ → ℕ → ℕ → (ℕ → ℤ) → ℕ → ℤ
outer_part t limit d n line i = excess limit (along t d n line i)

-- Five values, of one line and of another in turn, through the high join taps. Where the one holds q − p and the other q + p, this is p
-- through the low join taps and q through the high ones (law `crossed_joins`).
unfoldable pub crossed_along : ℕ → ℕ → (ℕ → ℤ) → (ℕ → ℤ) → ℕ → ℤ
crossed_along d n x y i =
    weighted high_join (x (reflect n (pos i -ℤ pos (2 * d)))) (y (reflect n (pos i -ℤ pos d))) (x (reflect n (pos i))) (y (reflect n (pos i +ℤ pos d))) (x (reflect n (pos i +ℤ pos (2 * d))))

-- ---- a row of the joined parts
-- band 2's parts joined along the row, from the line that is low along the columns
unfoldable pub low_parts : ℤ → ℕ → ℕ → (ℕ → ℤ) → ℕ → ℤ
low_parts limit d w low c = along high_join d w (outer_part high_split limit d w low) c

-- bands 3's and 4's, from the line that is high along them
unfoldable pub high_parts : ℤ → ℕ → ℕ → (ℕ → ℤ) → ℕ → ℤ
high_parts limit d w high c = along low_join d w (outer_part low_split limit d w high) c +ℤ along high_join d w (outer_part high_split limit d w high) c

-- their difference and their sum
unfoldable pub apart_row : ℤ → ℕ → ℕ → (ℕ → ℤ) → (ℕ → ℤ) → ℕ → ℤ
apart_row limit d w low high c = high_parts limit d w high c -ℤ low_parts limit d w low c

unfoldable pub together_row : ℤ → ℕ → ℕ → (ℕ → ℤ) → (ℕ → ℤ) → ℕ → ℤ
together_row limit d w low high c = high_parts limit d w high c +ℤ low_parts limit d w low c
