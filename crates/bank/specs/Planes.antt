-- Planes that stand in lists, row by row, as the bank's inner functions take them. Assumes nothing.
use Rattle.std.specs.Prelude.{◌≡◌, List, ℕ, ◌*◌, ◌≤◌, ◌<◌, ℤ, pos, nat_abs, length}
use Rattle.planes.specs.Planes.{plane_of}
use Rattle.planes.specs.Lists.{value}
use Rattle.filters.specs.Bank.{Bands}

-- a plane of w by h, none of its values farther from 0 than `most`
pub record Plane (most : ℕ) (l : List ℤ) (w h : ℕ) : Type 0 where
  pub count : length l ≡ w * h
  pub small : (k : ℕ) → k < w * h → nat_abs (value l k) ≤ most

-- the plane that a list holds, and the four values of four lists at each place
abbrev pub plane : ℕ → List ℤ → ℕ → ℕ → ℤ
plane w l = plane_of (pos 0) w l

abbrev pub bands_of : ℕ → Bands (List ℤ) → ℕ → ℕ → Bands ℤ
bands_of w l r c = record { band1 = plane w l.band1 r c; band2 = plane w l.band2 r c; band3 = plane w l.band3 r c; band4 = plane w l.band4 r c }
