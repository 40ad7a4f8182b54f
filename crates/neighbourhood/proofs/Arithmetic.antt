-- Sums as code computes them: their bounds, and the rounded quotient of one from 0 on and of one that is clipped to 0..top.
-- Assumes nothing.
use mathlib.Core.Path.{◌≡◌, refl, sym, ◌∙◌, ap, subst}
use mathlib.Core.Bool.{Bool, true, false, cond}
use Prim.Native.Nat.{ℕ, zero, suc, min, ◌+◌, ◌/◌, ◌≤◌, ◌<◌}
use native.Mathlib.Decide.{dec_lt}
use native.Mathlib.Nat.{zero-div}
use native.Mathlib.Omega.{arith}
use lib.Dec.{T, leb, leb→le}
use lib.IntN.{ℤ, pos, negsuc, nat_abs, ◌+ℤ◌}
use lib.Signed.{lt_z}
use borrow.Author.Tests.{lt-ltb, le-ltb}
use Rattle.std.specs.Int.{int_max}
use Rattle.integers.specs.Numbers.{whole_divided, rounded, clamp}
use Rattle.integers.proofs.Tests.{never}
use Rattle.integers.proofs.Bounds.{Bound, abs_add}
use Rattle.integers.proofs.Clamping.{clamp_low, clamp_high, clamp_mid}
use Rattle.neighbourhood.specs.Inner.{SmallResult}

-- ---- a signed result and its size
-- from the size of what it is
pub small_by : {m : ℕ} {r v : ℤ} → r ≡ v → nat_abs v ≤ m → SmallResult m r v
small_by {m} e h = record { is = e; small = subst (λ (z : ℤ). nat_abs z ≤ m) (sym e) h }

pub size : {m : ℕ} {r v : ℤ} → SmallResult m r v → nat_abs v ≤ m
size {m} s = subst (λ (z : ℤ). nat_abs z ≤ m) s.is s.small

-- a bound that `search bounds` finds
pub within : (z : ℤ) {m : ℕ} (b : Bound z) → T (leb b.most m) → nat_abs z ≤ m
within z {m} b t = let l : b.most ≤ m = leb→le b.most m t in omega (arith, b.holds)

pub sum_small : {m : ℕ} {r s x y : ℤ} → SmallResult m r x → SmallResult m s y → nat_abs (x +ℤ y) ≤ m + m
sum_small {x = x} {y = y} p q = omega (arith, abs_add x y, size p, size q)

-- ---- a sum from 0 on
pub rounded_pos : (d n : ℕ) → nat_abs (rounded d (pos n)) ≡ (n + d / 2) / d
unfolding rounded whole_divided
rounded_pos d n = refl

-- ---- clipped, by the sum z of s and half of d
module _ (d top : ℕ) (s z : ℤ) (e : z ≡ s +ℤ pos (d / 2)) where
  from : (x : ℤ) → clamp (pos 0) (pos top) (whole_divided z d) ≡ x → nat_abs x ≡ nat_abs (clamp (pos 0) (pos top) (rounded d s))
  unfolding rounded
  from x f = ap nat_abs (sym f ∙ ap (λ (y : ℤ). clamp (pos 0) (pos top) (whole_divided y d)) e)

  clipped_below : lt_z z (pos 0) ≡ true → 0 ≡ nat_abs (clamp (pos 0) (pos top) (rounded d s))
  clipped_below t = from (pos 0) (clamp_low (pos 0) (pos top) (whole_divided z d) (below z t))
    where
      below : (z : ℤ) → lt_z z (pos 0) ≡ true → lt_z (whole_divided z d) (pos 0) ≡ true
      below (pos n) t = never (sym t ∙ le-ltb n 0 (omega arith))
      below (negsuc n) t = unfold whole_divided in refl

  quotient : (z : ℤ) → lt_z z (pos 0) ≡ false → whole_divided z d ≡ pos (nat_abs z / d)
  unfolding whole_divided
  quotient (pos n) t = refl
  quotient (negsuc n) t = never t

  clipped_above : lt_z z (pos 0) ≡ false → top < nat_abs z / d → top ≡ nat_abs (clamp (pos 0) (pos top) (rounded d s))
  clipped_above t h =
      from (pos top) (ap (clamp (pos 0) (pos top)) (quotient z t)
      ∙ clamp_high (pos 0) (pos top) (pos (nat_abs z / d)) (le-ltb (nat_abs z / d) 0 (omega arith)) (lt-ltb top (nat_abs z / d) h))

  clipped-between : lt_z z (pos 0) ≡ false → nat_abs z / d ≤ top → nat_abs z / d ≡ nat_abs (clamp (pos 0) (pos top) (rounded d s))
  clipped-between t h =
      from (pos (nat_abs z / d)) (ap (clamp (pos 0) (pos top)) (quotient z t)
      ∙ clamp_mid (pos 0) (pos top) (pos (nat_abs z / d)) (le-ltb (nat_abs z / d) 0 (omega arith)) (le-ltb top (nat_abs z / d) h))

-- as the code clips: what is below 0 is raised to 0 before it is divided
pub clipped_by : (d top : ℕ) (s m : ℤ) → m ≡ int_max (s +ℤ pos (d / 2)) (pos 0) → min (nat_abs m / d) top ≡ nat_abs (clamp (pos 0) (pos top) (rounded d s))
clipped_by d top s m e = ap (λ (m : ℤ). min (nat_abs m / d) top) e ∙ go (s +ℤ pos (d / 2)) refl
  where
    same : (n : ℕ) → nat_abs (int_max (pos n) (pos 0)) ≡ n
    same zero = refl
    same (suc n) = ap (λ (b : Bool). nat_abs (cond b (pos (suc n)) (pos 0))) (lt-ltb 0 (suc n) (omega arith))

    above : (n : ℕ) → pos n ≡ s +ℤ pos (d / 2) → Dec (top < n / d) → min (n / d) top ≡ nat_abs (clamp (pos 0) (pos top) (rounded d s))
    above n e (yes h) = (let m : min (n / d) top ≡ top = omega arith in m) ∙ clipped_above d top s (pos n) e (le-ltb n 0 (omega arith)) h
    above n e (no h) =
        let l : n / d ≤ top = omega arith in
        (let m : min (n / d) top ≡ n / d = omega arith in m) ∙ clipped-between d top s (pos n) e (le-ltb n 0 (omega arith)) l

    go : (z : ℤ) → z ≡ s +ℤ pos (d / 2) → min (nat_abs (int_max z (pos 0)) / d) top ≡ nat_abs (clamp (pos 0) (pos top) (rounded d s))
    go (pos n) e = ap (λ (k : ℕ). min (k / d) top) (same n) ∙ above n e (dec_lt top (n / d))
    go (negsuc n) e = (let q : 0 / d ≡ 0 = zero-div d in let m : min (0 / d) top ≡ 0 = omega arith in m) ∙ clipped_below d top s (negsuc n) e refl
