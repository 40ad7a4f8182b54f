-- The laws of the fast form row by row: what a row of joined parts is made of and how large it grows, and that five of them give the joined
-- sum of what the difference's details have outside the limit. All of them are over the spacing d of the taps. Assumes nothing.
use mathlib.Core.Path.{◌≡◌, refl, sym, ◌∙◌, ap, subst}
use mathlib.Core.List.{[], ◌∷◌}
use Prim.Native.Nat.{ℕ, ◌*◌, ◌≤◌, ◌<◌}
use native.Mathlib.Nat.{le_trans, mul-le-mul_right}
use native.Mathlib.Omega.{arith}
use lib.Dec.{T}
use lib.IntN.{ℤ, pos, nat_abs, ◌+ℤ◌, ◌-ℤ◌}
use lib.Signed.{non_neg}
use Rattle.integers.proofs.Bounds.{abs_add, abs_sub}
use Rattle.integers.proofs.Linear.{linear, atom, number, x₀, x₁, x₂, x₃, ◌⊕◌, ◌⊖◌}
use Rattle.border.specs.Border.{reflect}
use Rattle.border.proofs.Reflection.{reflect_lt}
use Rattle.filters.specs.Bank.{Taps, weighted, tap, along, along_rows, along_columns, filtered, split, join, low_split, high_split, low_join, high_join}
use Rattle.filters.proofs.Taps.{weighted_linear}
use Rattle.filters.proofs.Ranges.{gain, weighted_range, along_range}
use Rattle.filters.proofs.Linearity.{along_cong, along_add, filtered_by_rows}
use Rattle.projection.specs.Fast.{excess, excess_details, outer_part, crossed_along, low_parts, high_parts, apart_row, together_row}
use Rattle.projection.proofs.Outside.{excess_bound, both_apart, both_together}

-- ---- two lines in turn
-- one line in both places is the filter along it
pub crossed_same : (d n : ℕ) (x : ℕ → ℤ) (i : ℕ) → crossed_along d n x x i ≡ along high_join d n x i
unfolding crossed_along along tap
crossed_same d n x i = refl

-- the places that five taps read
module _ (d n i : ℕ) where
  abbrev far_back : ℕ
  far_back = reflect n (pos i -ℤ pos (2 * d))

  abbrev near_back : ℕ
  near_back = reflect n (pos i -ℤ pos d)

  abbrev here : ℕ
  here = reflect n (pos i)

  abbrev near_on : ℕ
  near_on = reflect n (pos i +ℤ pos d)

  abbrev far_on : ℕ
  far_on = reflect n (pos i +ℤ pos (2 * d))

  -- a line that is taken away from the one and added to the other goes through the low join taps
  pub crossed_merged : (x y l : ℕ → ℤ) → crossed_along d n (λ k. x k -ℤ l k) (λ k. y k +ℤ l k) i ≡ crossed_along d n x y i +ℤ along low_join d n l i
  unfolding crossed_along along tap weighted low_join high_join
  crossed_merged x y l =
      linear (x far_back ∷ y near_back ∷ x here ∷ y near_on ∷ x far_on ∷ l far_back ∷ l near_back ∷ l here ∷ l near_on ∷ l far_on ∷ [])
      (weighted_linear high_join (x₀ ⊖ atom 5) (x₁ ⊕ atom 6) (x₂ ⊖ atom 7) (x₃ ⊕ atom 8) (atom 4 ⊖ atom 9))
      (weighted_linear high_join x₀ x₁ x₂ x₃ (atom 4) ⊕ weighted_linear low_join (atom 5) (atom 6) (atom 7) (atom 8) (atom 9)) tt

  -- so q − p and q + p in turn are p through the low join taps, and q through the high ones
  pub crossed_joins : (p q : ℕ → ℤ) → crossed_along d n (λ k. q k -ℤ p k) (λ k. q k +ℤ p k) i ≡ along low_join d n p i +ℤ along high_join d n q i
  crossed_joins p q =
      crossed_merged q q p ∙ ap (λ z. z +ℤ along low_join d n p i) (crossed_same d n q i) ∙ linear (along high_join d n q i ∷ along low_join d n p i ∷ []) (x₀ ⊕ x₁) (x₁ ⊕ x₀) tt

  -- how large
  pub crossed_range : 1 ≤ n → (m : ℕ) (x y : ℕ → ℤ) → ((k : ℕ) → k < n → nat_abs (x k) ≤ m) → ((k : ℕ) → k < n → nat_abs (y k) ≤ m) → nat_abs (crossed_along d n x y i) ≤ 12 * m
  unfolding crossed_along gain high_join
  crossed_range some m x y p q = weighted_range high_join m _ _ _ _ _ (at x p _) (at y q _) (at x p _) (at y q _) (at x p _)
    where
      at : (u : ℕ → ℤ) → ((k : ℕ) → k < n → nat_abs (u k) ≤ m) → (j : ℤ) → nat_abs (u (reflect n j)) ≤ m
      at u b j = b (reflect n j) (reflect_lt n some j)

-- ---- only what is inside a line counts
module _ (d n : ℕ) (some : 1 ≤ n) where
  pub along_inside : (t : Taps) (x y : ℕ → ℤ) → ((k : ℕ) → k < n → x k ≡ y k) → (i : ℕ) → along t d n x i ≡ along t d n y i
  along_inside t x y e i = along_cong t d n x y (λ j. e (reflect n j) (reflect_lt n some j)) i

  pub outer_inside : (t : Taps) (limit : ℤ) (x y : ℕ → ℤ) → ((k : ℕ) → k < n → x k ≡ y k) → (i : ℕ) → outer_part t limit d n x i ≡ outer_part t limit d n y i
  unfolding outer_part
  outer_inside t limit x y e i = ap (excess limit) (along_inside t x y e i)

  pub crossed_inside : (x x' y y' : ℕ → ℤ) → ((k : ℕ) → k < n → x k ≡ x' k) → ((k : ℕ) → k < n → y k ≡ y' k) → (i : ℕ) → crossed_along d n x y i ≡ crossed_along d n x' y' i
  unfolding crossed_along
  crossed_inside x x' y y' e f i = λ m. weighted high_join (at x x' e (pos i -ℤ pos (2 * d)) m) (at y y' f (pos i -ℤ pos d) m) (at x x' e (pos i) m) (at y y' f (pos i +ℤ pos d) m) (at x x' e (pos i +ℤ pos (2 * d)) m)
    where
      at : (u v : ℕ → ℤ) → ((k : ℕ) → k < n → u k ≡ v k) → (j : ℤ) → u (reflect n j) ≡ v (reflect n j)
      at u v g j = g (reflect n j) (reflect_lt n some j)

-- ---- a row of joined parts, by its two lines
module _ (limit : ℤ) (d w : ℕ) (some : 1 ≤ w) (low low' high high' : ℕ → ℤ) (e : (k : ℕ) → k < w → low k ≡ low' k) (f : (k : ℕ) → k < w → high k ≡ high' k) (c : ℕ) where
  low_inside : low_parts limit d w low c ≡ low_parts limit d w low' c
  unfolding low_parts
  low_inside = along_inside d w some high_join _ _ (λ k i. outer_inside d w some high_split limit low low' e k) c

  high_inside : high_parts limit d w high c ≡ high_parts limit d w high' c
  unfolding high_parts
  high_inside = λ m. along_inside d w some low_join _ _ (λ k i. outer_inside d w some low_split limit high high' f k) c m +ℤ along_inside d w some high_join _ _ (λ k i. outer_inside d w some high_split limit high high' f k) c m

  pub apart_inside : apart_row limit d w low high c ≡ apart_row limit d w low' high' c
  unfolding apart_row
  apart_inside = λ m. high_inside m -ℤ low_inside m

  pub together_inside : together_row limit d w low high c ≡ together_row limit d w low' high' c
  unfolding together_row
  together_inside = λ m. high_inside m +ℤ low_inside m

-- ---- how large it grows: the difference and the sum of two parts are no larger than one alone
pub four : (gain low_split ≤ 4) × (gain high_split ≤ 4)
unfolding gain low_split high_split
four = (omega arith, omega arith)

module _ (limit : ℤ) (sign : T (non_neg limit)) (d n m : ℕ) (some : 1 ≤ n) where
  module _ (x : ℕ → ℤ) (b : (k : ℕ) → k < n → nat_abs (x k) ≤ m) (i : ℕ) where
    pub outer_part_range : nat_abs (outer_part high_split limit d n x i) ≤ 4 * m
    unfolding outer_part
    outer_part_range = le_trans (excess_bound limit (along high_split d n x i) sign) (le_trans (along_range high_split d n m x some b i) (mul-le-mul_right m four.1))

    at : (j : ℤ) → nat_abs (x (reflect n j)) ≤ m
    at j = b (reflect n j) (reflect_lt n some j)

    pub outer_apart_range : nat_abs (outer_part high_split limit d n x i -ℤ outer_part low_split limit d n x i) ≤ 4 * m
    unfolding outer_part along tap
    outer_apart_range = both_apart limit sign m _ _ _ _ _ (at _) (at _) (at _)

    pub outer_together_range : nat_abs (outer_part high_split limit d n x i +ℤ outer_part low_split limit d n x i) ≤ 4 * m
    unfolding outer_part along tap
    outer_together_range = both_together limit sign m _ _ _ _ _ (at _) (at _) (at _)

  module _ (low high : ℕ → ℤ) (p : (k : ℕ) → k < n → nat_abs (low k) ≤ m) (q : (k : ℕ) → k < n → nat_abs (high k) ≤ m) (c : ℕ) where
    low_range : nat_abs (low_parts limit d n low c) ≤ 48 * m
    unfolding low_parts gain high_join
    low_range = le_trans (along_range high_join d n (4 * m) _ some (λ k i. outer_part_range low p k) c) (omega arith)

    -- both parts in one crossing, of their difference and their sum
    high_range : nat_abs (high_parts limit d n high c) ≤ 48 * m
    unfolding high_parts
    high_range =
        subst (λ (z : ℤ). nat_abs z ≤ 48 * m) (crossed_joins d n c (outer_part low_split limit d n high) (outer_part high_split limit d n high))
        (le_trans (crossed_range d n c some (4 * m) _ _ (λ k i. outer_apart_range high q k) (λ k i. outer_together_range high q k)) (omega arith))

    pub apart_range : nat_abs (apart_row limit d n low high c) ≤ 96 * m
    unfolding apart_row
    apart_range = omega (arith, abs_sub (high_parts limit d n high c) (low_parts limit d n low c), low_range, high_range)

    pub together_range : nat_abs (together_row limit d n low high c) ≤ 96 * m
    unfolding together_row
    together_range = omega (arith, abs_add (high_parts limit d n high c) (low_parts limit d n low c), low_range, high_range)

-- ---- five rows of joined parts
-- band 1 has no parts
none : (d w h r c : ℕ) → filtered low_join low_join d w h (λ i j. pos 0) r c ≡ pos 0
unfolding filtered along_rows along_columns along tap weighted low_join
none d w h r c = refl

module _ (limit : ℤ) (d w h : ℕ) (p : ℕ → ℕ → ℤ) where
  -- the two lines along the columns of plane p, row by row
  abbrev pub low_line : ℕ → ℕ → ℤ
  low_line = along_columns low_split d h p

  abbrev pub high_line : ℕ → ℕ → ℤ
  high_line = along_columns high_split d h p

  abbrev pub apart_plane : ℕ → ℕ → ℤ
  apart_plane r = apart_row limit d w (low_line r) (high_line r)

  abbrev pub together_plane : ℕ → ℕ → ℤ
  together_plane r = together_row limit d w (low_line r) (high_line r)

  -- how large they are
  module _ (sign : T (non_neg limit)) (m : ℕ) (wide : 1 ≤ w) (tall : 1 ≤ h) (b : (r c : ℕ) → r < h → c < w → nat_abs (p r c) ≤ m) (r c : ℕ) where
    line_range : (t : Taps) → gain t ≤ 4 → (k : ℕ) → k < w → nat_abs (along_columns t d h p r k) ≤ 4 * m
    unfolding along_columns
    line_range t g k j = le_trans (along_range t d h m (λ i. p i k) tall (λ i l. b i k l j) r) (mul-le-mul_right m g)

    pub apart_plane_range : nat_abs (apart_plane r c) ≤ 96 * (4 * m)
    apart_plane_range = apart_range limit sign d w (4 * m) wide (low_line r) (high_line r) (line_range low_split four.0) (line_range high_split four.1) c

    pub together_plane_range : nat_abs (together_plane r c) ≤ 96 * (4 * m)
    together_plane_range = together_range limit sign d w (4 * m) wide (low_line r) (high_line r) (line_range low_split four.0) (line_range high_split four.1) c

  -- what of band k lies outside
  part : Taps → Taps → ℕ → ℕ → ℤ
  part tr tc r c = excess limit (filtered tr tc d w h p r c)

  parts_along : (j tr tc : Taps) (r c : ℕ) → along j d w (outer_part tr limit d w (along_columns tc d h p r)) c ≡ along_rows j d w (part tr tc) r c
  unfolding outer_part along_rows part
  parts_along j tr tc r c = along_cong j d w _ _ (λ i. ap (excess limit) (filtered_by_rows tr tc d w h p r (reflect w i))) c

  -- joined along the columns, they are the joined sum of what lies outside
  pub crossed_parts : (r c : ℕ) → crossed_along d h (λ i. apart_plane i c) (λ i. together_plane i c) r ≡ join d w h (λ i j. excess_details limit (split d w h p i j)) r c
  unfolding apart_row together_row low_parts high_parts join excess_details split part
  crossed_parts r c =
      crossed_joins d h r (λ i. low_parts limit d w (low_line i) c) (λ i. high_parts limit d w (high_line i) c)
      ∙ (λ m. low m +ℤ high m)
      ∙ linear (F high_join low_join high_split low_split ∷ F low_join high_join low_split high_split ∷ F high_join high_join high_split high_split ∷ []) (x₀ ⊕ (x₁ ⊕ x₂)) (((number (pos 0) ⊕ x₀) ⊕ x₁) ⊕ x₂) tt
      ∙ ap (λ z. z +ℤ F high_join low_join high_split low_split +ℤ F low_join high_join low_split high_split +ℤ F high_join high_join high_split high_split) (sym (none d w h r c))
    where
      F : Taps → Taps → Taps → Taps → ℤ
      F jr jc tr tc = filtered jr jc d w h (part tr tc) r c

      low : along low_join d h (λ i. low_parts limit d w (low_line i) c) r ≡ F high_join low_join high_split low_split
      low = unfold low_parts filtered along_columns in along_cong low_join d h _ _ (λ i. parts_along high_join high_split low_split (reflect h i) c) r

      high : along high_join d h (λ i. high_parts limit d w (high_line i) c) r ≡ F low_join high_join low_split high_split +ℤ F high_join high_join high_split high_split
      high = unfold high_parts filtered along_columns in
          along_cong high_join d h _ _ (λ i. λ m. parts_along low_join low_split high_split (reflect h i) c m +ℤ parts_along high_join high_split high_split (reflect h i) c m) r
          ∙ along_add high_join d h (λ i. along_rows low_join d w (part low_split high_split) i c) (λ i. along_rows high_join d w (part high_split high_split) i c) r
