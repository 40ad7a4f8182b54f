-- Document 02, "Spot reading": the sum of a plane's samples over a window of 32 by 32 places. Assumes nothing.
use Rattle.std.specs.Prelude.{◌≡◌, Bool, ◌&&◌, List, ℕ, zero, suc, ◌+◌, ◌*◌, ◌≤◌, leb, get_or}

-- f 0 + … + f (n − 1)
unfoldable pub total : ℕ → (ℕ → ℕ) → ℕ
total zero f = 0
total (suc n) f = total n f + f n

-- the window's rows, and its columns
abbrev pub side : ℕ
side = 32

-- the sum over the window whose first place is at this row and column
abbrev pub window_sum : (ℕ → ℕ → ℕ) → ℕ → ℕ → ℕ
window_sum plane row column = total side (λ i. total side (λ j. plane (row + i) (column + j)))

-- whether that window lies wholly inside a frame
unfoldable pub window_inside : ℕ → ℕ → ℕ → ℕ → Bool
window_inside width height row column = leb (row + side) height && leb (column + side) width

-- of 16-bit samples: at most 65,535 in each of the 1,024 places
abbrev pub largest_sum : ℕ
largest_sum = 1024 * 65535

-- ---- what code asks and promises
-- the window lies inside rows of `width` samples, of which there are `samples`
pub record WindowRoom (width samples row column : ℕ) : Type 0 where
  pub across : column + side ≤ width
  pub down : (row + side) * width ≤ samples

-- r is the sum, and small
pub record WindowSum (plane : ℕ → ℕ → ℕ) (row column r : ℕ) : Type 0 where
  pub sum : r ≡ window_sum plane row column
  pub small : r ≤ largest_sum

-- r is the sum of a row of the window
pub record RowSum (row : List ℕ) (r : ℕ) : Type 0 where
  pub sum : r ≡ total side (λ j. get_or row j 0)
  pub small : r ≤ side * 65535
