-- A plane that stands in a list and its guide, which stands in another: what a projection is given of them. Assumes nothing.
use Rattle.std.specs.Prelude.{List, ℕ, ◌+◌, ◌*◌, ◌≤◌, ◌<◌, ℤ, pos, nat_abs, ◌-ℤ◌, get_or, length}
use Rattle.planes.specs.Planes.{Sizes}
use Rattle.planes.specs.Lists.{value}
use Rattle.filters.specs.Bank.{Distance}
use Rattle.rings.specs.declared.Given.{Given}

-- the plane that stands in a list from `at` on, row by row
unfoldable pub own_plane : Given → List ℤ → ℕ → ℕ → ℤ
own_plane g own r c = value own (g.at + (r * g.width + c))

-- the guide's plane: its first sample at `from`, its rows `down` apart and its columns `across` apart
unfoldable pub guide_plane : Given → List ℕ → ℕ → ℕ → ℤ
guide_plane g guide r c = pos (get_or guide (g.from + r * g.down + c * g.across) 0)

-- how far from 0 a value, and its difference to the guide's, may be; a working plane of 16-bit samples keeps within it
abbrev pub reach : ℕ
reach = 131070

-- 16 times as far, which is as far as band 1 of the differences may be
abbrev pub band_reach : ℕ
band_reach = 2097120

-- a plane and its guide that can be projected
pub record Projectable (g : Given) (own : List ℤ) (guide : List ℕ) : Type 0 where
  pub sizes : Sizes 1 g.width g.height
  pub limit : Distance g.limit
  pub inside : g.at + g.width * g.height ≤ length own
  pub small : (k : ℕ) → k < g.width * g.height → nat_abs (value own (g.at + k)) ≤ reach
  pub guide_inside : (r c : ℕ) → r < g.height → c < g.width → g.from + r * g.down + c * g.across < length guide
  pub near : (r c : ℕ) → r < g.height → c < g.width → nat_abs (own_plane g own r c -ℤ guide_plane g guide r c) ≤ reach
