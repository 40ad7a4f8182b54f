-- Document 01, "Turns", on pictures. Assumes nothing.
use Rattle.std.specs.Prelude.{◌≡◌, Bool, true, false, cond, ℕ, ◌+◌, ◌*◌, ◌-◌, ◌/◌, ◌%◌, ◌<◌, leb, eqb}
use Rattle.std.proofs.Math.Bool.{xor}
use Rattle.planes.specs.Layout.{red_row, red_column, with_parities}

infix 4 ◌≈◌
-- what stands at each place, by row and column, of a width and a height, with a layout
pub record Picture (A : Type 0) : Type 0 where
  pub width : ℕ
  pub height : ℕ
  pub layout : ℕ
  pub at : ℕ → ℕ → A

-- ---- the three steps of a turn
-- An exchange swaps w and h, and layouts 1 and 2. Row i, column j holds what row j, column i held.
unfoldable pub exchanged : {A : Type 0} → Picture A → Picture A
exchanged p = record {
  width = p.height;
  height = p.width;
  layout = with_parities p.layout (red_column p.layout) (red_row p.layout);
  at = λ i j. p.at j i;
}

-- a parity of red, flipped where the line that is mirrored has an even number of places
unfoldable pub flip_if_even : ℕ → ℕ → ℕ
flip_if_even n parity = elim (eqb (n % 2) 0) [ true ↦ 1 - parity | false ↦ parity ]

-- A left-right mirror flips red's column parity if the width is then even. Row i, column j holds what row i, column w−1−j held.
unfoldable pub left_right : {A : Type 0} → Picture A → Picture A
left_right p = record {
  width = p.width;
  height = p.height;
  layout = with_parities p.layout (red_row p.layout) (flip_if_even p.width (red_column p.layout));
  at = λ i j. p.at i (p.width - 1 - j);
}

-- A top-bottom mirror flips red's row parity if the height is even. Row i, column j holds what row h−1−i, column j held.
unfoldable pub top_bottom : {A : Type 0} → Picture A → Picture A
top_bottom p = record {
  width = p.width;
  height = p.height;
  layout = with_parities p.layout (flip_if_even p.height (red_row p.layout)) (red_column p.layout);
  at = λ i j. p.at (p.height - 1 - i) j;
}

-- ---- turns
pub record Steps : Type 0 where
  pub exchange : Bool
  pub mirror_left_right : Bool
  pub mirror_top_bottom : Bool

-- Turn t, 0 to 7. If t ≥ 4, rows and columns are exchanged first; then t mod 4 mirrors: 0 none, 1 left-right, 2 top-bottom, 3 both.
unfoldable pub steps_of : ℕ → Steps
steps_of t = record { exchange = leb 4 t; mirror_left_right = eqb (t % 2) 1; mirror_top_bottom = eqb (t / 2 % 2) 1 }

abbrev pub if_so {ℓ} : {A : Type ℓ} → Bool → (A → A) → A → A
if_so true f a = f a
if_so false f a = a

unfoldable pub turned_by : {A : Type 0} → Steps → Picture A → Picture A
turned_by s p = if_so s.mirror_top_bottom top_bottom (if_so s.mirror_left_right left_right (if_so s.exchange exchanged p))

unfoldable pub turned : {A : Type 0} → ℕ → Picture A → Picture A
turned t p = turned_by (steps_of t) p

-- ---- then-another
-- s, and then t: an exchange in t makes a left-right mirror of s a top-bottom one, and the other way round
unfoldable pub followed_by : Steps → Steps → Steps
unfolding xor
followed_by s t = record {
  exchange = xor s.exchange t.exchange;
  mirror_left_right = xor (cond t.exchange s.mirror_top_bottom s.mirror_left_right) t.mirror_left_right;
  mirror_top_bottom = xor (cond t.exchange s.mirror_left_right s.mirror_top_bottom) t.mirror_top_bottom;
}

abbrev pub bit : Bool → ℕ
bit true = 1
bit false = 0

unfoldable pub number_of_steps : Steps → ℕ
number_of_steps s = 4 * bit s.exchange + 2 * bit s.mirror_top_bottom + bit s.mirror_left_right

-- The one turn that does what turn s and then turn t do (law `Turned-then`). Turn 1 followed by 4 is 6.
unfoldable pub then_another : ℕ → ℕ → ℕ
then_another s t = number_of_steps (followed_by (steps_of s) (steps_of t))

-- ---- two pictures of one size and layout that agree at its places
pub record ◌≈◌ {A : Type 0} (p q : Picture A) : Type 0 where
  pub widths : p.width ≡ q.width
  pub heights : p.height ≡ q.height
  pub layouts : p.layout ≡ q.layout
  pub places : (r c : ℕ) → r < p.height → c < p.width → p.at r c ≡ q.at r c
