-- The rows in lists: where a row has room, and a row of a level's joined parts as the calls leave it. Assumes nothing.
use mathlib.Core.Path.{◌≡◌, sym, ◌∙◌, ap, subst}
use mathlib.Core.List.{List}
use Prim.Native.Nat.{ℕ, ◌+◌, ◌*◌, ◌%◌, ◌≤◌, ◌<◌}
use native.Mathlib.Nat.{mod-lt, mul_comm, mul-le-mul_right, le_trans}
use native.Mathlib.Omega.{arith}
use lib.Dec.{T}
use lib.IntN.{ℤ, pos, nat_abs, ◌+ℤ◌, ◌-ℤ◌}
use lib.ListN.{length}
use lib.Signed.{non_neg}
use mir.Syntax.{w64}
use mir.Val.{Fits}
use borrow.Author.Rules.{scaled_Fits}
use Rattle.integers.specs.Lists.{overwrite}
use Rattle.integers.proofs.Lists.{overwrite_in, overwrite_cong}
use Rattle.planes.specs.Lists.{value}
use Rattle.planes.proofs.Planes.{row_room}
use Rattle.filters.specs.Bank.{Taps, along, low_split, high_split, high_join}
use Rattle.filters.proofs.Ranges.{gain}
use Rattle.lines.specs.Lines.{Run, three}
use Rattle.lines.proofs.Lines.{run_laid, three_range}
use Rattle.projection.specs.Fast.{outer_part, crossed_along, low_parts, high_parts, apart_row, together_row}
use Rattle.projection.proofs.Parts.{crossed_joins, along_inside, outer_inside, crossed_inside, four, outer_part_range, outer_apart_range, outer_together_range}
use Rattle.details.specs.Details.{from_place}
use Rattle.rings.specs.declared.Given.{Given}
use Rattle.rings.specs.declared.Level.{Level}
use Rattle.rings.specs.Planes.{band_reach}
use Rattle.rings.specs.Rows.{slot, slot_of, ring_line, RingRows}

-- ---- a row has room in its slot
-- in slot i of n, which the machine can count to
pub slot_inside : (i n w l : ℕ) → i < n → n * w ≤ l → i * w + w ≤ l
slot_inside i n w l h fit = omega (arith, row_room w n i h, mul_comm w n)

-- a slot's place is a number of 64 bits
pub slot_fits : (i w : ℕ) → i < 9 → w ≤ 2048 → Fits w64 (i * w)
slot_fits i w h k = scaled_Fits i 9 w h (omega arith)

pub slot_room : (n w q : ℕ) → 1 ≤ n → slot n w q + w ≤ n * w
slot_room n w q some = slot_inside (q % n) n w (n * w) (mod-lt q some) (omega arith)

-- ---- a row of joined parts, as the calls leave it
-- what was laid down is a run, where its values are small
pub laid_run : (m : ℕ) (l : List ℤ) (o n : ℕ) (f : ℕ → ℤ) {laid : List ℤ} → laid ≡ overwrite l o n f → o + n ≤ length l → ((k : ℕ) → k < n → nat_abs (f k) ≤ m) → Run m laid o n
laid_run m l o n f e h b = subst (λ (x : List ℤ). Run m x o n) (sym e) (run_laid m l o n f h b)

-- and holds them
pub laid_at : (l : List ℤ) (o n : ℕ) (f : ℕ → ℤ) {laid : List ℤ} → laid ≡ overwrite l o n f → o + n ≤ length l → (k : ℕ) → k < n → value laid (o + k) ≡ f k
laid_at l o n f e h k i = ap (λ (x : List ℤ). value x (o + k)) e ∙ overwrite_in l o n f k (pos 0) h i

module _ (limit : ℤ) (sign : T (non_neg limit)) (g : Given) (v : Level) (r : ℕ) (some : 1 ≤ g.width) (ring : List ℤ) (rows : RingRows g v ring r) where
  abbrev w : ℕ
  w = g.width

  abbrev d : ℕ
  d = v.spacing

  -- the two lines along the columns
  abbrev Line : Taps → ℕ → ℤ
  Line t = ring_line t g v ring r

  line_range : (t : Taps) → gain t ≤ 4 → (k : ℕ) → k < w → nat_abs (Line t k) ≤ 8388480
  unfolding ring_line
  line_range t g k i = le_trans (three_range t rows.above rows.here rows.below k i) (omega (arith, mul-le-mul_right band_reach g))

  pub line_run : (t : Taps) → gain t ≤ 4 → (l : List ℤ) {line : List ℤ} → d + w ≤ length l → line ≡ overwrite l d w (Line t) → Run 134217728 line d w
  line_run t g l room e = laid_run 134217728 l d w (Line t) e room (λ k i. le_trans (line_range t g k i) (omega arith))

  -- what of the details along them lies outside
  module _ (x y : List ℤ) (room_x : d + w ≤ length x) (room_y : d + w ≤ length y) {low high : List ℤ} (low_is : low ≡ overwrite x d w (Line low_split)) (high_is : high ≡ overwrite y d w (Line high_split)) where
    e : (k : ℕ) → k < w → from_place d low k ≡ Line low_split k
    e = laid_at x d w (Line low_split) low_is room_x

    f : (k : ℕ) → k < w → from_place d high k ≡ Line high_split k
    f = laid_at y d w (Line high_split) high_is room_y

    -- lines that hold them are small
    small : (t : Taps) → gain t ≤ 4 → (line : List ℤ) → ((k : ℕ) → k < w → from_place d line k ≡ Line t k) → (k : ℕ) → k < w → nat_abs (from_place d line k) ≤ 8388480
    small t g line at k b = subst (λ (z : ℤ). nat_abs z ≤ 8388480) (sym (at k b)) (line_range t g k b)

    -- joined along the row
    module _ (l₁ l₂ l₃ : List ℤ) {parts minus plus : List ℤ} (room₁ : 2 * d + w ≤ length l₁) (room₂ : 2 * d + w ≤ length l₂) (room₃ : 2 * d + w ≤ length l₃)
        (p : parts ≡ overwrite l₁ (2 * d) w (outer_part high_split limit d w (from_place d low)))
        (q : minus ≡ overwrite l₂ (2 * d) w (λ k. outer_part high_split limit d w (from_place d high) k -ℤ outer_part low_split limit d w (from_place d high) k))
        (u : plus ≡ overwrite l₃ (2 * d) w (λ k. outer_part high_split limit d w (from_place d high) k +ℤ outer_part low_split limit d w (from_place d high) k)) where
      pub outer_runs : Run 67108864 parts (2 * d) w × Run 67108864 minus (2 * d) w × Run 67108864 plus (2 * d) w
      outer_runs = (
        laid_run 67108864 l₁ (2 * d) w _ p room₁ (λ k i. le_trans (outer_part_range limit sign d w 8388480 some (from_place d low) (small low_split four.0 low e) k) (omega arith)),
        laid_run 67108864 l₂ (2 * d) w _ q room₂ (λ k i. le_trans (outer_apart_range limit sign d w 8388480 some (from_place d high) (small high_split four.1 high f) k) (omega arith)),
        laid_run 67108864 l₃ (2 * d) w _ u room₃ (λ k i. le_trans (outer_together_range limit sign d w 8388480 some (from_place d high) (small high_split four.1 high f) k) (omega arith)),
      )

      low_joined : (c : ℕ) → along high_join d w (from_place (2 * d) parts) c ≡ low_parts limit d w (Line low_split) c
      unfolding low_parts
      low_joined c = along_inside d w some high_join _ _ (λ k i. laid_at l₁ (2 * d) w _ p room₁ k i ∙ outer_inside d w some high_split limit (from_place d low) (Line low_split) e k) c

      high_joined : (c : ℕ) → crossed_along d w (from_place (2 * d) minus) (from_place (2 * d) plus) c ≡ high_parts limit d w (Line high_split) c
      unfolding high_parts
      high_joined c =
          crossed_inside d w some (from_place (2 * d) minus) (λ k. outer_part high_split limit d w (Line high_split) k -ℤ outer_part low_split limit d w (Line high_split) k) (from_place (2 * d) plus) (λ k. outer_part high_split limit d w (Line high_split) k +ℤ outer_part low_split limit d w (Line high_split) k)
          (λ k i. laid_at l₂ (2 * d) w _ q room₂ k i ∙ (λ m. both high_split k m -ℤ both low_split k m)) (λ k i. laid_at l₃ (2 * d) w _ u room₃ k i ∙ (λ m. both high_split k m +ℤ both low_split k m)) c
          ∙ crossed_joins d w c (outer_part low_split limit d w (Line high_split)) (outer_part high_split limit d w (Line high_split))
        where
          both : (t : Taps) (k : ℕ) → outer_part t limit d w (from_place d high) k ≡ outer_part t limit d w (Line high_split) k
          both t k = outer_inside d w some t limit (from_place d high) (Line high_split) f k

      -- code's two rows
      pub both_laid : (l l' : List ℤ) (at : ℕ) {apart together : List ℤ} → apart ≡ overwrite l at w (λ k. crossed_along d w (from_place (2 * d) minus) (from_place (2 * d) plus) k -ℤ along high_join d w (from_place (2 * d) parts) k)
          → together ≡ overwrite l' at w (λ k. crossed_along d w (from_place (2 * d) minus) (from_place (2 * d) plus) k +ℤ along high_join d w (from_place (2 * d) parts) k)
          → (apart ≡ overwrite l at w (apart_row limit d w (Line low_split) (Line high_split))) × (together ≡ overwrite l' at w (together_row limit d w (Line low_split) (Line high_split)))
      unfolding apart_row together_row
      both_laid l l' at z z' = (z ∙ overwrite_cong l at w _ _ (λ k i. λ m. high_joined k m -ℤ low_joined k m), z' ∙ overwrite_cong l' at w _ _ (λ k i. λ m. high_joined k m +ℤ low_joined k m))

-- ---- from the slots that code found
module _ (g : Given) (v : Level) (r : ℕ) (ring : List ℤ) {a b : ℕ} (is_a : a ≡ slot_of v.source g (pos r -ℤ pos v.spacing)) (is_b : b ≡ slot_of v.source g (pos r +ℤ pos v.spacing)) where
  pub line_laid : (t : Taps) (l : List ℤ) {line : List ℤ} → line ≡ overwrite l v.spacing g.width (three t ring a (slot v.source g.width r) b) → line ≡ overwrite l v.spacing g.width (ring_line t g v ring r)
  unfolding ring_line
  line_laid t l q = q ∙ (λ m. overwrite l v.spacing g.width (three t ring (is_a m) (slot v.source g.width r) (is_b m)))
