-- What lies outside a limit: by its tests, and how large it is. It is odd and moves no faster than the number, so the difference of two such
-- parts is no larger than the numbers' difference, and their sum no larger than the numbers' sum. Assumes nothing.
use mathlib.Core.Path.{◌≡◌, refl, sym, ◌∙◌, ap}
use mathlib.Core.Bool.{true, false}
use mathlib.Core.List.{[], ◌∷◌}
use Prim.Native.Nat.{ℕ, zero, suc, ◌+◌, ◌*◌, ◌-◌, ◌≤◌, ◌<◌}
use native.Mathlib.Decide.{dec_lt}
use native.Mathlib.Omega.{arith}
use lib.Dec.{T}
use lib.IntN.{ℤ, pos, negsuc, neg_ℤ, nat_abs, ◌+ℤ◌, ◌-ℤ◌, +ℤ_idl}
use lib.Signed.{lt_z, non_neg}
use borrow.Author.Tests.{le-ltb, lt-ltb}
use Rattle.integers.proofs.Bounds.{abs_neg, abs_minus, abs_add, minus_pos}
use Rattle.integers.proofs.Clamping.{clamp_low, clamp_high, clamp_mid}
use Rattle.integers.proofs.Linear.{linear, atom, x₀, x₁, x₂, number, neg, ◌⊕◌, ◌⊖◌}
use Rattle.filters.specs.Bank.{weighted, low_split, high_split}
use Rattle.filters.proofs.Taps.{weighted_linear}
use Rattle.projection.specs.Fast.{excess}

-- ---- by the two tests
-- the opposite of a limit, as they have it
opposite : (limit : ℤ) → pos 0 -ℤ limit ≡ neg_ℤ limit
opposite limit = +ℤ_idl (neg_ℤ limit)

pub excess_below : (limit z : ℤ) → lt_z z (pos 0 -ℤ limit) ≡ true → z +ℤ limit ≡ excess limit z
unfolding excess
excess_below limit z t =
    linear (z ∷ limit ∷ []) (x₀ ⊕ x₁) (x₀ ⊖ neg x₁) tt ∙ ap (λ x. z -ℤ x) (sym (clamp_low (neg_ℤ limit) limit z (ap (lt_z z) (sym (opposite limit)) ∙ t)))

pub excess_above : (limit z : ℤ) → lt_z z (pos 0 -ℤ limit) ≡ false → lt_z limit z ≡ true → z -ℤ limit ≡ excess limit z
unfolding excess
excess_above limit z t u = ap (λ x. z -ℤ x) (sym (clamp_high (neg_ℤ limit) limit z (ap (lt_z z) (sym (opposite limit)) ∙ t) u))

pub excess_none : (limit z : ℤ) → lt_z z (pos 0 -ℤ limit) ≡ false → lt_z limit z ≡ false → pos 0 ≡ excess limit z
unfolding excess
excess_none limit z t u = linear (z ∷ []) (number (pos 0)) (x₀ ⊖ x₀) tt ∙ ap (λ x. z -ℤ x) (sym (clamp_mid (neg_ℤ limit) limit z (ap (lt_z z) (sym (opposite limit)) ∙ t) u))

-- ---- by the number's sign
-- −m is not above a natural number, and −(a + 1) is below −m where m ≤ a
not_under : (m a : ℕ) → lt_z (pos a) (neg_ℤ (pos m)) ≡ false
not_under zero a = le-ltb a 0 (omega arith)
not_under (suc m) a = refl

under : (m a : ℕ) → m ≤ a → lt_z (negsuc a) (neg_ℤ (pos m)) ≡ true
under zero a h = refl
under (suc m) a h = lt-ltb m a (omega arith)

not_under_neg : (m a : ℕ) → a < m → lt_z (negsuc a) (neg_ℤ (pos m)) ≡ false
not_under_neg zero a h = absurd (omega arith)
not_under_neg (suc m) a h = le-ltb m a (omega arith)

pub excess_pos : (m a : ℕ) → excess (pos m) (pos a) ≡ pos (a - m)
excess_pos m a = go (dec_lt m a)
  where
    low : lt_z (pos a) (pos 0 -ℤ pos m) ≡ false
    low = ap (lt_z (pos a)) (opposite (pos m)) ∙ not_under m a

    go : Dec (m < a) → excess (pos m) (pos a) ≡ pos (a - m)
    go (yes h) = sym (excess_above (pos m) (pos a) low (lt-ltb m a h)) ∙ minus_pos a m (omega arith)
    go (no h) = sym (excess_none (pos m) (pos a) low (le-ltb m a (omega arith))) ∙ ap pos (let e : 0 ≡ a - m = omega arith in e)

pub excess_negsuc : (m a : ℕ) → excess (pos m) (negsuc a) ≡ neg_ℤ (pos (suc a - m))
excess_negsuc m a = go (dec_lt a m)
  where
    go : Dec (a < m) → excess (pos m) (negsuc a) ≡ neg_ℤ (pos (suc a - m))
    go (yes h) = sym (excess_none (pos m) (negsuc a) (ap (lt_z (negsuc a)) (opposite (pos m)) ∙ not_under_neg m a h) refl) ∙ ap (λ (k : ℕ). neg_ℤ (pos k)) (let e : 0 ≡ suc a - m = omega arith in e)
    go (no h) =
        sym (excess_below (pos m) (negsuc a) (ap (lt_z (negsuc a)) (opposite (pos m)) ∙ under m a (omega arith)))
        ∙ linear (pos (suc a) ∷ pos m ∷ []) (neg x₀ ⊕ x₁) (neg (x₀ ⊖ x₁)) tt ∙ ap neg_ℤ (minus_pos (suc a) m (omega arith))

-- ---- no farther from 0 than the whole
pub excess_bound : (limit z : ℤ) → T (non_neg limit) → nat_abs (excess limit z) ≤ nat_abs z
excess_bound (negsuc m) z s = absurd s
excess_bound (pos m) (pos a) s = omega (arith, ap nat_abs (excess_pos m a))
excess_bound (pos m) (negsuc a) s = omega (arith, ap nat_abs (excess_negsuc m a), abs_neg (pos (suc a - m)))

-- ---- no faster
-- a sum of natural numbers has their sum's size
abs_both : (a b : ℕ) → nat_abs (pos a +ℤ pos b) ≡ a + b
abs_both a b = refl

-- the four signs of a difference
two_negs : (a b : ℕ) → nat_abs (neg_ℤ (pos a) -ℤ neg_ℤ (pos b)) ≡ (b - a) + (a - b)
two_negs a b = ap nat_abs (linear (pos a ∷ pos b ∷ []) (neg x₀ ⊖ neg x₁) (x₁ ⊖ x₀) tt) ∙ abs_minus b a

pos_neg : (a b : ℕ) → nat_abs (pos a -ℤ neg_ℤ (pos b)) ≡ a + b
pos_neg a b = ap nat_abs (linear (pos a ∷ pos b ∷ []) (x₀ ⊖ neg x₁) (x₀ ⊕ x₁) tt)

neg_pos : (a b : ℕ) → nat_abs (neg_ℤ (pos a) -ℤ pos b) ≡ a + b
neg_pos a b = ap nat_abs (linear (pos a ∷ pos b ∷ []) (neg x₀ ⊖ x₁) (neg (x₀ ⊕ x₁)) tt) ∙ abs_neg (pos a +ℤ pos b)

pub excess_apart : (limit x y : ℤ) → T (non_neg limit) → nat_abs (excess limit x -ℤ excess limit y) ≤ nat_abs (x -ℤ y)
excess_apart (negsuc m) x y s = absurd s
excess_apart (pos m) (pos a) (pos b) s = omega (arith, ap nat_abs (λ i. excess_pos m a i -ℤ excess_pos m b i), abs_minus (a - m) (b - m), abs_minus a b)
excess_apart (pos m) (pos a) (negsuc b) s = omega (arith, ap nat_abs (λ i. excess_pos m a i -ℤ excess_negsuc m b i), pos_neg (a - m) (suc b - m), pos_neg a (suc b))
excess_apart (pos m) (negsuc a) (pos b) s = omega (arith, ap nat_abs (λ i. excess_negsuc m a i -ℤ excess_pos m b i), neg_pos (suc a - m) (b - m), neg_pos (suc a) b)
excess_apart (pos m) (negsuc a) (negsuc b) s = omega (arith, ap nat_abs (λ i. excess_negsuc m a i -ℤ excess_negsuc m b i), two_negs (suc a - m) (suc b - m), two_negs (suc a) (suc b))

-- ---- odd
pub excess_odd : (limit z : ℤ) → T (non_neg limit) → excess limit (neg_ℤ z) ≡ neg_ℤ (excess limit z)
excess_odd (negsuc m) z s = absurd s
excess_odd (pos m) (pos zero) s = excess_pos m 0 ∙ ap pos (let e : 0 - m ≡ 0 = omega arith in e) ∙ ap (λ (k : ℕ). neg_ℤ (pos k)) (let e : 0 ≡ 0 - m = omega arith in e) ∙ ap neg_ℤ (sym (excess_pos m 0))
excess_odd (pos m) (pos (suc a)) s = excess_negsuc m a ∙ ap neg_ℤ (sym (excess_pos m (suc a)))
excess_odd (pos m) (negsuc a) s = excess_pos m (suc a) ∙ linear (pos (suc a - m) ∷ []) x₀ (neg (neg x₀)) tt ∙ ap neg_ℤ (sym (excess_negsuc m a))

pub excess_together : (limit x y : ℤ) → T (non_neg limit) → nat_abs (excess limit x +ℤ excess limit y) ≤ nat_abs (x +ℤ y)
excess_together limit x y s =
    omega (
      arith,
      excess_apart limit x (neg_ℤ y) s,
      ap nat_abs (ap (λ z. excess limit x -ℤ z) (excess_odd limit y s) ∙ linear (excess limit x ∷ excess limit y ∷ []) (x₀ ⊖ neg x₁) (x₀ ⊕ x₁) tt),
      ap nat_abs (linear (x ∷ y ∷ []) (x₀ ⊖ neg x₁) (x₀ ⊕ x₁) tt),
    )

-- ---- so both parts of three values within m are within 4·m, by difference and by sum
module _ (limit : ℤ) (sign : T (non_neg limit)) (m : ℕ) (a b c d e : ℤ) (ha : nat_abs b ≤ m) (hb : nat_abs c ≤ m) (hc : nat_abs d ≤ m) where
  pub both_apart : nat_abs (excess limit (weighted high_split a b c d e) -ℤ excess limit (weighted low_split a b c d e)) ≤ 4 * m
  unfolding weighted high_split low_split
  both_apart =
      omega (
        arith,
        excess_apart limit (weighted high_split a b c d e) (weighted low_split a b c d e) sign,
        ap nat_abs (linear (a ∷ b ∷ c ∷ d ∷ e ∷ []) (weighted_linear high_split x₀ x₁ x₂ (atom 3) (atom 4) ⊖ weighted_linear low_split x₀ x₁ x₂ (atom 3) (atom 4)) (neg (x₂ ⊕ x₂ ⊕ (x₂ ⊕ x₂))) tt),
        abs_neg (c +ℤ c +ℤ (c +ℤ c)),
        abs_add (c +ℤ c) (c +ℤ c),
        abs_add c c,
      )

  pub both_together : nat_abs (excess limit (weighted high_split a b c d e) +ℤ excess limit (weighted low_split a b c d e)) ≤ 4 * m
  unfolding weighted high_split low_split
  both_together =
      omega (
        arith,
        excess_together limit (weighted high_split a b c d e) (weighted low_split a b c d e) sign,
        ap nat_abs (linear (a ∷ b ∷ c ∷ d ∷ e ∷ []) (weighted_linear high_split x₀ x₁ x₂ (atom 3) (atom 4) ⊕ weighted_linear low_split x₀ x₁ x₂ (atom 3) (atom 4)) ((x₁ ⊕ x₁) ⊕ (atom 3 ⊕ atom 3)) tt),
        abs_add (b +ℤ b) (d +ℤ d),
        abs_add b b,
        abs_add d d,
      )
