-- Every estimate is at most `top` where the samples are. Assumes nothing.
use mathlib.Core.Path.{◌≡◌}
use mathlib.Core.Bool.{Bool, true, false, not}
use Prim.Native.Nat.{ℕ, ◌+◌, ◌*◌, ◌≤◌, ◌<◌}
use native.Mathlib.Omega.{arith}
use lib.Dec.{lit<}
use lib.IntN.{ℤ, pos, negsuc, ◌+ℤ◌}
use lib.ListN.{length}
use Rattle.integers.specs.Numbers.{rounded}
use Rattle.integers.proofs.Clamping.{clamp-sample}
use Rattle.integers.proofs.Rounding.{rounded_bound}
use Rattle.border.specs.Border.{reflect}
use Rattle.border.proofs.Reflection.{reflect_lt}
use Rattle.planes.specs.Layout.{Colour, red, green, blue, by_parity, on_red_row, on_red_column}
use Rattle.planes.specs.Planes.{Frame, Planes, plane_of}
use Rattle.questions.specs.Questions.{all_at_most}
use Rattle.turns.specs.Operations.{Around, nearby}
use Rattle.turns.proofs.Frames.{plane_bound, listing_bound}
use Rattle.neighbourhood.specs.Place.{row_of, column_of, eight_greens, hamilton_adams, green_at, of_two, of_four, bilinear}
use Rattle.estimate.specs.Estimates.{estimate_at, estimate}
use Rattle.estimate.specs.Calls.{estimate_lists}

module _ (top : ℕ) where
  two_bound : (a b : ℕ) → a ≤ top → b ≤ top → of_two a b ≤ top
  unfolding of_two
  two_bound a b p q = rounded_bound 2 top (pos (a + b)) (lit< tt) (omega arith)

  four_bound : (a b c d : ℕ) → a ≤ top → b ≤ top → c ≤ top → d ≤ top → of_four a b c d ≤ top
  unfolding of_four
  four_bound a b c d p q r s = rounded_bound 4 top (pos (a + b + c + d)) (lit< tt) (omega arith)

  -- from a neighbourhood of samples
  module _ (n : Around ℕ) (small : (i j : ℤ) → n i j ≤ top) where
    bilinear_bound : (a b : Bool) → bilinear a b n ≤ top
    unfolding bilinear
    bilinear_bound true true = small (pos 0) (pos 0)
    bilinear_bound true false = two_bound _ _ (small (pos 0) (negsuc 0)) (small (pos 0) (pos 1))
    bilinear_bound false true = two_bound _ _ (small (negsuc 0) (pos 0)) (small (pos 1) (pos 0))
    bilinear_bound false false = four_bound _ _ _ _ (small (negsuc 0) (negsuc 0)) (small (negsuc 0) (pos 1)) (small (pos 1) (negsuc 0)) (small (pos 1) (pos 1))

    adams_bound : hamilton_adams top n ≤ top
    unfolding hamilton_adams
    adams_bound = (clamp-sample top (rounded 8 (eight_greens (row_of n) (column_of n)))).0

    green_bound : (colour : Colour) → green_at top colour n ≤ top
    unfolding green_at
    green_bound red = adams_bound
    green_bound green = small (pos 0) (pos 0)
    green_bound blue = adams_bound

-- one in each of the three planes
pub record SamplesTo (top : ℕ) (q : Planes ℕ) : Type 0 where
  pub red : q.red ≤ top
  pub green : q.green ≤ top
  pub blue : q.blue ≤ top

pub estimate_bound : (top w h l : ℕ) (p : ℕ → ℕ → ℕ) → ((r c : ℕ) → r < h → c < w → p r c ≤ top) → (r c : ℕ) → r < h → c < w → SamplesTo top (estimate top w h l p r c)
unfolding estimate nearby estimate_at
estimate_bound top w h l p small r c hr hc = record {
  red = bilinear_bound top near there (on_red_row l r) (on_red_column l c);
  green = green_bound top near there (by_parity (on_red_row l r) (on_red_column l c));
  blue = bilinear_bound top near there (not (on_red_row l r)) (not (on_red_column l c));
}
  where
    near : Around ℕ
    near i j = p (reflect h (pos r +ℤ i)) (reflect w (pos c +ℤ j))

    there : (i j : ℤ) → near i j ≤ top
    there i j = small (reflect h (pos r +ℤ i)) (reflect w (pos c +ℤ j)) (reflect_lt h (omega arith) (pos r +ℤ i)) (reflect_lt w (omega arith) (pos c +ℤ j))

-- ---- the planes as lists: they answer question 10 yes where the mosaic answers 9 yes
pub lists_bound : (top : ℕ) (f : Frame) → length f.samples ≡ f.width * f.height → all_at_most top f.samples ≡ true
    → let e = estimate_lists top f in (all_at_most top e.red ≡ true) × (all_at_most top e.green ≡ true) × (all_at_most top e.blue ≡ true)
unfolding estimate_lists
lists_bound top f count small = (
  listing_bound top f.width f.height _ (λ r c hr hc. (bound r c hr hc).red),
  listing_bound top f.width f.height _ (λ r c hr hc. (bound r c hr hc).green),
  listing_bound top f.width f.height _ (λ r c hr hc. (bound r c hr hc).blue),
)
  where
    bound : (r c : ℕ) → r < f.height → c < f.width → SamplesTo top (estimate top f.width f.height f.layout (plane_of 0 f.width f.samples) r c)
    bound = estimate_bound top f.width f.height f.layout (plane_of 0 f.width f.samples) (plane_bound top f.width f.height f.samples count small)
