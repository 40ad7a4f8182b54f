-- Document 01, "Rounds", of one colour's working plane; document 02, "Second level of the bank" and "Black beside white". Assumes nothing.
use Rattle.std.specs.Prelude.{Bool, cond, ℕ, zero, suc, ◌*◌, ℤ, pos, neg_ℤ}
use Rattle.integers.specs.Numbers.{clipped}
use Rattle.planes.specs.Places.{put_at_places}
use Rattle.filters.specs.Bank.{rescaled}
use Rattle.projection.specs.Projection.{Limits, held_sum, two_level_sum}

-- ---- a round of one colour's working plane, with green fixed
-- what it is given beside that plane: whether there are two levels; the ceiling; how far a detail of each level may be from green's; the frame's
-- sizes; the parities of the colour's rows and columns; the mosaic and green
pub record Round : Type 0 where
  pub two : Bool
  pub top : ℕ
  pub limits : Limits
  pub width : ℕ
  pub height : ℕ
  pub row : ℕ
  pub column : ℕ
  pub mosaic : ℕ → ℕ → ℕ
  pub green : ℕ → ℕ → ℕ

-- "Between rounds a working plane now keeps −4,095..8,190": from −ceiling to 2·ceiling
unfoldable pub least_kept : ℕ → ℤ
least_kept top = neg_ℤ (pos top)

unfoldable pub most_kept : ℕ → ℤ
most_kept top = pos (2 * top)

-- what it keeps of a joined sum: brought back, from so many times a sample, into that range
unfoldable pub kept : ℕ → ℕ → ℤ → ℤ
kept times top s = rescaled times (least_kept top) (most_kept top) s

-- one level: split; in bands 2, 3, 4 hold the value within green's ± 16·T; join and bring back
unfoldable pub one_level : Round → (ℕ → ℕ → ℤ) → ℕ → ℕ → ℤ
one_level k own r c = kept 1024 k.top (held_sum k.limits.first 1 k.width k.height (λ i j. pos (k.green i j)) own r c)

-- two levels: band 1 is split again, its details held within green's ± 256·T, and joined before the rest; only the whole is brought back
unfoldable pub two_level : Round → (ℕ → ℕ → ℤ) → ℕ → ℕ → ℤ
two_level k own r c = kept 1048576 k.top (two_level_sum k.limits k.width k.height (λ i j. pos (k.green i j)) own r c)

-- the observed samples put in, at the colour's places
unfoldable pub put_observed : Round → (ℕ → ℕ → ℤ) → ℕ → ℕ → ℤ
put_observed k plane = put_at_places k.row k.column (λ r c. pos (k.mosaic r c)) plane

-- a round: the one or the other, and then the observed samples
unfoldable pub round : Round → (ℕ → ℕ → ℤ) → ℕ → ℕ → ℤ
round k own = put_observed k (λ r c. cond k.two (two_level k own r c) (one_level k own r c))

-- the working plane after n rounds, one after another
unfoldable pub working_plane : ℕ → Round → (ℕ → ℕ → ℤ) → ℕ → ℕ → ℤ
working_plane zero k own = own
working_plane (suc n) k own = round k (working_plane n k own)

-- a colour's plane of samples after n rounds: its working plane, "clipped to 0..4,095 after the last"
unfoldable pub rewritten : ℕ → Round → (ℕ → ℕ → ℕ) → ℕ → ℕ → ℕ
rewritten n k plane r c = clipped k.top (working_plane n k (λ i j. pos (plane i j)) r c)
