-- The sums of the projection, along lines that stand in lists: what of a difference's details lies outside a limit, and what those
-- parts are joined to. Assumes nothing.
use Rattle.std.specs.Prelude.{List, ℕ, ◌+◌, ◌*◌, ℤ, pos, ◌+ℤ◌, ◌-ℤ◌, ◌*ℤ◌, get_or}
use Rattle.planes.specs.Lists.{value}
use Rattle.filters.specs.Bank.{Taps, weighted, low_split, high_split, high_join, rescaled}
use Rattle.lines.specs.declared.Five.{Five}
use Rattle.lines.specs.Lines.{Run, spaced, three}
use Rattle.projection.specs.Fast.{excess}

-- ---- the difference of a plane and its guide
-- place k of the guide's samples that stand `step` apart, from `from` on
unfoldable pub guide_value : List ℕ → ℕ → ℕ → ℕ → ℤ
guide_value guide from step k = pos (get_or guide (from + k * step) 0)

unfoldable pub difference_line : List ℤ → ℕ → List ℕ → ℕ → ℕ → ℕ → ℤ
difference_line own at guide from step k = value own (at + k) -ℤ guide_value guide from step k

-- ---- along a padded line of n, with taps d places apart
-- its places, the ones d after them, and the ones d after those
pub record Triple (m : ℕ) (line : List ℤ) (d n : ℕ) : Type 0 where
  pub first : Run m line 0 n
  pub second : Run m line d n
  pub third : Run m line (2 * d) n

-- what of a split filter's value lies outside the limit
unfoldable pub outer : Taps → ℤ → ℕ → List ℤ → ℕ → ℤ
outer t limit d line k = excess limit (three t line 0 d (2 * d) k)

-- both filters' parts: their difference and their sum
unfoldable pub outer_minus : ℤ → ℕ → List ℤ → ℕ → ℤ
outer_minus limit d line k = outer high_split limit d line k -ℤ outer low_split limit d line k

unfoldable pub outer_plus : ℤ → ℕ → List ℤ → ℕ → ℤ
outer_plus limit d line k = outer high_split limit d line k +ℤ outer low_split limit d line k

-- the line that begins at a place of a list
abbrev pub from_place : ℕ → List ℤ → ℕ → ℤ
from_place pad l k = value l (pad + k)

-- ---- joined
-- five values, of one list and of another in turn, through the high join taps
unfoldable pub crossed : List ℤ → List ℤ → Five → ℕ → ℤ
crossed x y starts k =
    weighted high_join (value x (starts.a + k)) (value y (starts.b + k)) (value x (starts.c + k)) (value y (starts.d + k)) (value x (starts.e + k))

-- five such runs of n places
pub record Crossing (m : ℕ) (x y : List ℤ) (starts : Five) (n : ℕ) : Type 0 where
  pub first : Run m x starts.a n
  pub second : Run m y starts.b n
  pub third : Run m x starts.c n
  pub fourth : Run m y starts.d n
  pub fifth : Run m x starts.e n

-- the joined parts of a row: along the row, from the three padded lines of parts
unfoldable pub joined_apart : ℕ → List ℤ → List ℤ → List ℤ → ℕ → ℤ
joined_apart d parts minus plus k = crossed minus plus (spaced d) k -ℤ crossed parts parts (spaced d) k

unfoldable pub joined_together : ℕ → List ℤ → List ℤ → List ℤ → ℕ → ℤ
joined_together d parts minus plus k = crossed minus plus (spaced d) k +ℤ crossed parts parts (spaced d) k

-- ---- 1,024 times a value, less a joined sum, brought back
unfoldable pub settled : ℤ → ℤ → ℤ → ℤ → ℤ
settled least most x sum = rescaled 1024 least most (pos 1024 *ℤ x -ℤ sum)
