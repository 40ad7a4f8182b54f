-- The stages of a sweep. A stage that lags `lag` steps has made t − lag rows before step t, and makes one more at step t, as long as there are
-- rows. Assumes nothing.
use Rattle.std.specs.Prelude.{◌≡◌, List, ℕ, ◌+◌, ◌*◌, ◌-◌, ◌<◌, min, ℤ, length}
use Rattle.integers.specs.Lists.{overwrite}
use Rattle.rings.specs.declared.Given.{Given}
use Rattle.rings.specs.Rows.{slot}

-- how many of h rows are made before step t
abbrev pub reached : ℕ → ℕ → ℕ → ℕ
reached lag h t = min (t - lag) h

-- one is made at step t
abbrev pub Working : ℕ → ℕ → ℕ → Type 0
Working lag h t = reached lag h t < reached lag h (t + 1)

-- what step t lays down from place o on: a row, or none
unfoldable pub row_laid : ℕ → Given → ℕ → List ℤ → ℕ → (ℕ → ℤ) → List ℤ
row_laid lag g t l o f = overwrite l o ((reached lag g.height (t + 1) - reached lag g.height t) * g.width) f

-- in a ring of n slots
unfoldable pub ring_row_laid : ℕ → ℕ → Given → ℕ → List ℤ → (ℕ → ℕ → ℤ) → List ℤ
ring_row_laid n lag g t l rows = row_laid lag g t l (slot n g.width (reached lag g.height t)) (rows (reached lag g.height t))

-- what is left of scratch: it is as long as it was
abbrev pub AsLong : List ℤ → List ℤ → Type 0
AsLong before after = length after ≡ length before
