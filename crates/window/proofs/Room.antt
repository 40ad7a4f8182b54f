-- A window inside a frame, and its rows. Assumes nothing.
use mathlib.Core.Path.{◌≡◌, refl, sym, ap, ◌∙◌}
use mathlib.Core.Bool.{Bool, true, false, ◌&&◌}
use Prim.Native.Nat.{ℕ, ◌+◌, ◌*◌, ◌≤◌, ◌<◌}
use native.Mathlib.Nat.{mul-le-mul_right, suc-mul, mul_comm}
use native.Mathlib.Omega.{arith}
use lib.Dec.{leb, leb→le}
use borrow.Author.Tests.{le-leb, lt-leb}
use Rattle.integers.proofs.Tests.{true_is, and_left, and_right}
use Rattle.window.specs.Window.{side, window_inside, WindowRoom}

module _ {width samples row column : ℕ} (r : WindowRoom width samples row column) where
  -- row i of the window
  pub row_inside : (i : ℕ) → i < side → (row + i) * width + column + side ≤ samples
  row_inside i h =
      let m : (row + i + 1) * width ≤ (row + side) * width = mul-le-mul_right width (omega arith) in
      omega (arith, suc-mul (row + i) width, r.across, r.down)

-- ---- question 19
module _ (width height row column : ℕ) where
  pub outside_down : height < row + side → false ≡ window_inside width height row column
  unfolding window_inside
  outside_down h = sym (ap (λ (b : Bool). b && leb (column + side) width) (lt-leb (row + side) height h))

  pub outside_across : width < column + side → false ≡ window_inside width height row column
  unfolding window_inside
  outside_across h = sym (ap (λ (b : Bool). leb (row + side) height && b) (lt-leb (column + side) width h) ∙ nothing (leb (row + side) height))
    where
      nothing : (b : Bool) → (b && false) ≡ false
      nothing true = refl
      nothing false = refl

  pub inside_both : row + side ≤ height → column + side ≤ width → true ≡ window_inside width height row column
  unfolding window_inside
  inside_both h g = sym (λ i. le-leb (row + side) height h i && le-leb (column + side) width g i)

  -- answered yes, the window has room in a plane of the frame
  pub room_of : window_inside width height row column ≡ true → {samples : ℕ} → samples ≡ width * height → WindowRoom width samples row column
  unfolding window_inside
  room_of e n =
      let low = leb (row + side) height in
      let left = leb (column + side) width in
      let m = mul-le-mul_right width (leb→le (row + side) height (and_left low left (true_is e))) in
      record { across = leb→le (column + side) width (and_right low left (true_is e)); down = omega (arith, m, mul_comm height width) }
