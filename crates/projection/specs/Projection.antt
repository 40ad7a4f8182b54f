-- Document 01, "Rounds": the bands of a plane, its details held within a limit of another plane's, joined and brought back; "Green
-- update" is the same with the limit 0 (law `mixed-projected` of crate `update`). Document 02, "Second level of the bank": the same with
-- band 1 split again. The other plane is called the guide. Assumes nothing.
use Rattle.std.specs.Prelude.{ℕ, ◌*◌, ℤ, pos, ◌+ℤ◌, ◌-ℤ◌, ◌*ℤ◌}
use Rattle.integers.specs.Numbers.{clamp}
use Rattle.filters.specs.Bank.{Bands, split, join, rescaled}

-- ---- one level
-- a value held within the guide's value ± limit
unfoldable pub held : ℤ → ℤ → ℤ → ℤ
held limit guide x = clamp (guide -ℤ limit) (guide +ℤ limit) x

-- band 1 as it is; in bands 2, 3 and 4 the value held
unfoldable pub hold_details : ℤ → Bands ℤ → Bands ℤ → Bands ℤ
hold_details limit guide own = record {
  band1 = own.band1;
  band2 = held limit guide.band2 own.band2;
  band3 = held limit guide.band3 own.band3;
  band4 = held limit guide.band4 own.band4;
}

-- both planes split, and the bands joined
unfoldable pub held_sum : ℤ → ℕ → ℕ → ℕ → (ℕ → ℕ → ℤ) → (ℕ → ℕ → ℤ) → ℕ → ℕ → ℤ
held_sum limit d w h guide own = join d w h (λ i j. hold_details limit (split d w h guide i j) (split d w h own i j))

-- brought back, with the clip's ends as numbers
unfoldable pub projected : ℤ → ℤ → ℤ → ℕ → ℕ → (ℕ → ℕ → ℤ) → (ℕ → ℕ → ℤ) → ℕ → ℕ → ℤ
projected limit least most w h guide own r c = rescaled 1024 least most (held_sum limit 1 w h guide own r c)

-- ---- two levels
-- a plane's band 1; it is as large as the plane, and reflected at the same border
unfoldable pub low_band : ℕ → ℕ → (ℕ → ℕ → ℤ) → ℕ → ℕ → ℤ
low_band w h plane r c = (split 1 w h plane r c).band1

-- The first level's bands over the second level's sum, which stands in band 1's place. It is 1,024 times as large as band 1, so "the first
-- level's details are taken 1,024 times before the last join".
unfoldable pub over_level : ℤ → Bands ℤ → Bands ℤ
over_level sum first = record {
  band1 = sum;
  band2 = pos 1024 *ℤ first.band2;
  band3 = pos 1024 *ℤ first.band3;
  band4 = pos 1024 *ℤ first.band4;
}

-- how far a detail of each level may be from the guide's
pub record Limits : Type 0 where
  pub first : ℤ
  pub second : ℤ

-- for threshold T: 16·T, and 256·T
unfoldable pub limits_of : ℕ → Limits
limits_of threshold = record { first = pos (16 * threshold); second = pos (256 * threshold) }

-- "Band 1 is split again with the same taps spread to every second place", held "in its three new details, and joined"; then the last
-- join. Nothing is rounded before.
unfoldable pub two_level_sum : Limits → ℕ → ℕ → (ℕ → ℕ → ℤ) → (ℕ → ℕ → ℤ) → ℕ → ℕ → ℤ
two_level_sum limits w h guide own =
    join 1 w h (λ i j. over_level (held_sum limits.second 2 w h (low_band w h guide) (low_band w h own) i j) (hold_details limits.first (split 1 w h guide i j) (split 1 w h own i j)))

-- "the whole is rounded only there: (s + 524,288) whole-divided by 1,048,576, then clipped"
unfoldable pub two_level_projected : Limits → ℤ → ℤ → ℕ → ℕ → (ℕ → ℕ → ℤ) → (ℕ → ℕ → ℤ) → ℕ → ℕ → ℤ
two_level_projected limits least most w h guide own r c = rescaled 1048576 least most (two_level_sum limits w h guide own r c)
