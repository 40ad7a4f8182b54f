-- Lent work buffers: what they hold on the way, and afterwards. Assumes nothing.
use Rattle.std.specs.Prelude.{◌≡◌, Bool, cond, List, ℕ, ◌+◌, ◌*◌, ◌/◌, ◌%◌, ◌≤◌, ◌<◌, T, ℤ, pos, nat_abs, length}
use Rattle.std.specs.Int.Signed.{non_neg}
use Rattle.integers.specs.Lists.{overwrite}
use Rattle.planes.specs.Planes.{Sizes}
use Rattle.planes.specs.Lists.{value}

-- a work buffer whose first w·h numbers are a plane, row by row
unfoldable pub with_plane : ℕ → ℕ → (ℕ → ℕ → ℤ) → List ℤ → List ℤ
with_plane w h plane work = overwrite work 0 (w * h) (λ k. plane (k / w) (k % w))

-- Document 01, "Rounds": afterwards its first 8·w·h hold 0 and the rest is untouched.
unfoldable pub zeroed : ℕ → ℕ → List ℤ → List ℤ
zeroed w h work = overwrite work 0 (8 * (w * h)) (λ k. pos 0)

-- Document 02: of a two-level call the wide one "too is left zero in that length"; a one-level call does not touch it.
unfoldable pub wide_zeroed : Bool → ℕ → ℕ → List ℤ → List ℤ
wide_zeroed two w h wide = cond two (zeroed w h wide) wide

-- ---- what the code asks of lists
-- the n numbers from o on are in the list, and each is a 16-bit sample
pub record Narrow (l : List ℤ) (o n : ℕ) : Type 0 where
  pub inside : o + n ≤ length l
  pub sign : (k : ℕ) → k < n → T (non_neg (value l (o + k)))
  pub small : (k : ℕ) → k < n → nat_abs (value l (o + k)) ≤ 65535

-- a frame's sizes, a mosaic and a green plane of that size, and a work buffer that is long enough
pub record Workable (w h : ℕ) (mosaic green : List ℕ) (room : ℕ) : Type 0 where
  pub sizes : Sizes 2 w h
  pub samples : length mosaic ≡ w * h
  pub greens : length green ≡ w * h
  pub work : 8 * (w * h) ≤ room
