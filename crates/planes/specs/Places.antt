-- A colour's places, every second row and every second column, and where they stand in lists. Assumes nothing.
use Rattle.std.specs.Prelude.{cond, ◌&&◌, ℕ, ◌+◌, ◌*◌, ◌-◌, ◌/◌, ◌%◌, eqb}

-- ---- a colour's places: every second row from a on, every second column from b on
-- how many of n rows, or columns, are its
unfoldable pub half : ℕ → ℕ → ℕ
half n a = (n + 1 - a) / 2

-- a plane with another's elements put at those places
abbrev pub put_at_places : {A : Type 0} → ℕ → ℕ → (ℕ → ℕ → A) → (ℕ → ℕ → A) → ℕ → ℕ → A
put_at_places a b other plane r c = cond (eqb (r % 2) a && eqb (c % 2) b) (other r c) (plane r c)

-- where place k of them stands in a list: the first at `from`, the rows `down` apart, and the `columns` places of a row 2 apart
unfoldable pub place : ℕ → ℕ → ℕ → ℕ → ℕ
place from down columns k = from + k / columns * down + 2 * (k % columns)
