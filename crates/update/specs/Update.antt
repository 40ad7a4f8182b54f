-- Document 01, "Green update". Assumes nothing.
use Rattle.std.specs.Prelude.{ℕ, ◌+◌, ◌*◌, ◌-◌, ◌/◌, ℤ, pos}
use Rattle.planes.specs.Layout.{red_row, red_column}
use Rattle.planes.specs.Places.{half, put_at_places}
use Rattle.turns.specs.Operations.{Operation}
use Rattle.filters.specs.Bank.{Bands, split, join, brought_back}

-- ---- a colour's places: every second row from a on, every second column from b on
-- the small plane that they form
unfoldable pub small_plane : {A : Type 0} → ℕ → ℕ → (ℕ → ℕ → A) → ℕ → ℕ → A
small_plane a b plane i j = plane (2 * i + a) (2 * j + b)

-- ---- band 1 of that green with bands 2 to 4 of that colour
unfoldable pub mix : Bands ℤ → Bands ℤ → Bands ℤ
mix green colour = record { band1 = green.band1; band2 = colour.band2; band3 = colour.band3; band4 = colour.band4 }

-- joined and brought back
unfoldable pub mixed : ℕ → ℕ → ℕ → (ℕ → ℕ → ℤ) → (ℕ → ℕ → ℤ) → ℕ → ℕ → ℕ
mixed top w h green colour r c = brought_back top (join 1 w h (λ i j. mix (split 1 w h green i j) (split 1 w h colour i j)) r c)

-- ---- put into a plane at those places: from the observed colour in the mosaic, and the first green estimate
unfoldable pub put_mixed : ℕ → ℕ → ℕ → ℕ → ℕ → (ℕ → ℕ → ℕ) → (ℕ → ℕ → ℕ) → (ℕ → ℕ → ℕ) → ℕ → ℕ → ℕ
put_mixed top w h a b mosaic green plane =
    put_at_places a b (λ r c. mixed top (half w b) (half h a) (small_plane a b (λ i j. pos (green i j))) (small_plane a b (λ i j. pos (mosaic i j))) (r / 2) (c / 2)) plane

-- Blue places, and then red places; both read the first green estimate. A place has its mosaic sample, and its green.
unfoldable pub update : ℕ → Operation (ℕ × ℕ) ℕ
update top w h l p = put_mixed top w h (red_row l) (red_column l) mosaic green (put_mixed top w h (1 - red_row l) (1 - red_column l) mosaic green green)
  where
    mosaic : ℕ → ℕ → ℕ
    mosaic i j = (p i j).0

    green : ℕ → ℕ → ℕ
    green i j = (p i j).1
