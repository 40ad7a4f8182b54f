-- Planes, the lists that hold them row by row, and frames. Assumes nothing.
use Rattle.std.specs.Prelude.{◌≡◌, List, ℕ, ◌+◌, ◌*◌, ◌/◌, ◌%◌, ◌≤◌, ◌<◌, get_or, length}
use Rattle.integers.specs.Lists.{tabulate}

-- ---- a plane: what stands at each place, by row and column; its width and height stand beside it
module _ {A : Type 0} where
  -- a plane row by row, as a list of w · h elements
  unfoldable pub listing : ℕ → ℕ → (ℕ → ℕ → A) → List A
  listing w h plane = tabulate (w * h) (λ k. plane (k / w) (k % w))

  -- the plane that a list of rows of w elements holds; past the list's end, `none`
  unfoldable pub plane_of : A → ℕ → List A → ℕ → ℕ → A
  plane_of none w list r c = get_or list (r * w + c) none

-- two planes that agree inside w by h: the same plane
abbrev pub Agree : {A : Type 0} → ℕ → ℕ → (ℕ → ℕ → A) → (ℕ → ℕ → A) → Type 0
Agree w h p q = (r c : ℕ) → r < h → c < w → p r c ≡ q r c

-- a width and a height from `least` to 2,048, and so at most 2,048 · 2,048 places
pub record Sizes (least w h : ℕ) : Type 0 where
  pub width_from : least ≤ w
  pub width_to : w ≤ 2048
  pub height_from : least ≤ h
  pub height_to : h ≤ 2048
  pub area : w * h ≤ 4194304

-- ---- three planes, and frames
-- one of a kind for each of the three planes: three lists, their lengths, or the three samples at a place
pub record Planes (A : Type 0) : Type 0 where
  pub red : A
  pub green : A
  pub blue : A

abbrev pub planes : {A : Type 0} → A → A → A → Planes A
planes r g b = record { red = r; green = g; blue = b }

abbrev pub lengths : Planes (List ℕ) → Planes ℕ
lengths p = planes (length p.red) (length p.green) (length p.blue)

-- three planes row by row
abbrev pub listings : {A : Type 0} → ℕ → ℕ → (ℕ → ℕ → Planes A) → Planes (List A)
listings w h p = planes (listing w h (λ r c. (p r c).red)) (listing w h (λ r c. (p r c).green)) (listing w h (λ r c. (p r c).blue))

-- document 01's width, height, layout and samples; a plane of samples too
pub record Frame : Type 0 where
  pub width : ℕ
  pub height : ℕ
  pub layout : ℕ
  pub samples : List ℕ

abbrev pub frame : ℕ → ℕ → ℕ → List ℕ → Frame
frame w h l s = record { width = w; height = h; layout = l; samples = s }
