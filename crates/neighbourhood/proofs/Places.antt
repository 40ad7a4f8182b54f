-- What code reads from a neighbourhood, and by the parities of a place. Assumes nothing.
use mathlib.Core.Path.{◌≡◌, refl, sym}
use mathlib.Core.Bool.{Bool, true, false, cond, beq}
use mathlib.Core.List.{List, []}
use Prim.Native.Nat.{ℕ}
use lib.IntN.{pos, negsuc, ◌+ℤ◌}
use lib.ListN.{get_or}
use Rattle.integers.specs.Lists.{tabulate}
use Rattle.integers.proofs.Tests.{never}
use Rattle.border.specs.Border.{reflect}
use Rattle.planes.specs.Layout.{Colour, red, green, blue, by_parity}
use Rattle.turns.specs.Operations.{Around}
use Rattle.neighbourhood.specs.Inner.{line_of}
use Rattle.neighbourhood.specs.Place.{neighbourhood, around, row_of, column_of, greens, two_away, gradient, along_line, along_both, eight_greens, hamilton_adams, green_at, of_two, of_four, bilinear}

-- the row and the column through the place
pub lines_of : (n : List (List ℕ))
    → eight_greens (line_of (get_or n 2 [])) (line_of (tabulate 5 (λ i. get_or (get_or n i []) 2 0)))
    ≡ eight_greens (row_of (around n)) (column_of (around n))
unfolding eight_greens gradient along_line along_both greens two_away line_of around tabulate
lines_of n = refl

-- ---- picked by the parities
module _ (n : Around ℕ) where
  -- green, by whether the row and the column both have red's parity or both have not
  pub green_picked : (top : ℕ) (a b : Bool) → cond (beq a b) (hamilton_adams top n) (n (pos 0) (pos 0)) ≡ green_at top (by_parity a b) n
  unfolding green_at by_parity
  green_picked top true true = refl
  green_picked top true false = refl
  green_picked top false true = refl
  green_picked top false false = refl

  -- red or blue, on a row of its own parity and on another
  pub picked_on : (a b : Bool) {r : ℕ} → a ≡ true → r ≡ cond b (n (pos 0) (pos 0)) (of_two (n (pos 0) (negsuc 0)) (n (pos 0) (pos 1))) → r ≡ bilinear a b n
  unfolding bilinear
  picked_on true true t e = e
  picked_on true false t e = e
  picked_on false b t e = never (sym t)

  pub picked_off : (a b : Bool) {r : ℕ} → a ≡ false
      → r ≡ cond b (of_two (n (negsuc 0) (pos 0)) (n (pos 1) (pos 0))) (of_four (n (negsuc 0) (negsuc 0)) (n (negsuc 0) (pos 1)) (n (pos 1) (negsuc 0)) (n (pos 1) (pos 1)))
      → r ≡ bilinear a b n
  unfolding bilinear
  picked_off true b t e = never t
  picked_off false true t e = e
  picked_off false false t e = e

-- ---- the estimates of a place, from its neighbourhood as an array
module _ (w h : ℕ) (plane : ℕ → ℕ → ℕ) (r c : ℕ) where
  -- what stands around the place, and the same read from the array
  abbrev near : Around ℕ
  near i j = plane (reflect h (pos r +ℤ i)) (reflect w (pos c +ℤ j))

  abbrev read : Around ℕ
  read = around (neighbourhood w h plane r c)

  pub bilinear_read : (a b : Bool) → bilinear a b read ≡ bilinear a b near
  unfolding bilinear around neighbourhood tabulate
  bilinear_read true true = refl
  bilinear_read true false = refl
  bilinear_read false true = refl
  bilinear_read false false = refl

  pub green_read : (top : ℕ) (colour : Colour) → green_at top colour read ≡ green_at top colour near
  unfolding green_at hamilton_adams eight_greens gradient along_line along_both greens two_away around neighbourhood tabulate
  green_read top red = refl
  green_read top green = refl
  green_read top blue = refl
