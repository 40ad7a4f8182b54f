-- The laws of clipping. Assumes nothing.
use mathlib.Core.Path.{◌≡◌, refl, sym, ◌∙◌, ap, subst}
use mathlib.Core.Bool.{Bool, true, false, cond}
use Prim.Native.Nat.{ℕ, ◌≤◌}
use native.Mathlib.Omega.{arith}
use lib.Dec.{leb→le}
use lib.IntN.{ℤ, pos, negsuc, nat_abs, ◌+ℤ◌}
use lib.Signed.{lt_z, ◌≤ℤ◌, ≤ℤ_refl}
use Rattle.integers.specs.Numbers.{clamp}
use Rattle.integers.proofs.Order.{≤ℤ_trans, ≤ℤ_antisym, le_of_lt, le_of_not_lt, not_lt_of_le, abs-between, lt_moved}

-- ---- by the two tests, as code makes them
pub clamp_low : (lo hi z : ℤ) → lt_z z lo ≡ true → clamp lo hi z ≡ lo
unfolding clamp
clamp_low lo hi z e = ap (λ (b : Bool). cond b lo (cond (lt_z hi z) hi z)) e

pub clamp_high : (lo hi z : ℤ) → lt_z z lo ≡ false → lt_z hi z ≡ true → clamp lo hi z ≡ hi
unfolding clamp
clamp_high lo hi z e f = λ i. cond (e i) lo (cond (f i) hi z)

pub clamp_mid : (lo hi z : ℤ) → lt_z z lo ≡ false → lt_z hi z ≡ false → clamp lo hi z ≡ z
unfolding clamp
clamp_mid lo hi z e f = λ i. cond (e i) lo (cond (f i) hi z)

-- what holds of lo, of hi, and of z where it lies between, holds of the clipped number
pub clamp_cases : (lo hi z : ℤ) (P : ℤ → Type 0) → (lt_z z lo ≡ true → P lo) → (lt_z hi z ≡ true → P hi) → (lo ≤ℤ z → z ≤ℤ hi → P z) → P (clamp lo hi z)
clamp_cases lo hi z P f g h = go (lt_z z lo) (lt_z hi z) refl refl
  where
    go : (a b : Bool) → lt_z z lo ≡ a → lt_z hi z ≡ b → P (clamp lo hi z)
    go true b e k = subst P (sym (clamp_low lo hi z e)) (f e)
    go false true e k = subst P (sym (clamp_high lo hi z e k)) (g k)
    go false false e k = subst P (sym (clamp_mid lo hi z e k)) (h (le_of_not_lt z lo e) (le_of_not_lt hi z k))

-- ---- what lies between stays
pub clamp_inside : {lo hi z : ℤ} → lo ≤ℤ z → z ≤ℤ hi → clamp lo hi z ≡ z
clamp_inside {lo} {hi} {z} h k = clamp_mid lo hi z (not_lt_of_le h) (not_lt_of_le k)

-- ---- and what comes out lies between
module _ (lo hi : ℤ) (order : lo ≤ℤ hi) where
  pub clamp_from : (z : ℤ) → lo ≤ℤ clamp lo hi z
  clamp_from z = clamp_cases lo hi z (λ x. lo ≤ℤ x) (λ e. ≤ℤ_refl lo) (λ e. order) (λ h k. h)

  pub clamp_to : (z : ℤ) → clamp lo hi z ≤ℤ hi
  clamp_to z = clamp_cases lo hi z (λ x. x ≤ℤ hi) (λ e. order) (λ e. ≤ℤ_refl hi) (λ h k. k)

  pub clamp_twice : (z : ℤ) → clamp lo hi (clamp lo hi z) ≡ clamp lo hi z
  clamp_twice z = clamp_inside (clamp_from z) (clamp_to z)

  -- what lies below the range is clipped to its least, what lies above to its most
  pub clamp_below : {z : ℤ} → z ≤ℤ lo → clamp lo hi z ≡ lo
  clamp_below {z} k =
      clamp_cases lo hi z (λ x. x ≡ lo) (λ e. refl) (λ e. ≤ℤ_antisym (≤ℤ_trans (le_of_lt hi z e) k) order) (λ e f. ≤ℤ_antisym k e)

  pub clamp_above : {z : ℤ} → hi ≤ℤ z → clamp lo hi z ≡ hi
  clamp_above {z} k =
      clamp_cases lo hi z (λ x. x ≡ hi) (λ e. ≤ℤ_antisym order (≤ℤ_trans k (le_of_lt z lo e))) (λ e. refl) (λ e f. ≤ℤ_antisym f k)

  pub clamp_monotone : {a b : ℤ} → a ≤ℤ b → clamp lo hi a ≤ℤ clamp lo hi b
  clamp_monotone {a} {b} h =
      clamp_cases lo hi a (λ x. x ≤ℤ clamp lo hi b) (λ e. clamp_from b)
      (λ e. subst (λ (x : ℤ). hi ≤ℤ x) (sym (clamp_above (≤ℤ_trans (le_of_lt hi a e) h))) (≤ℤ_refl hi))
      (λ f g. clamp_cases lo hi b (λ x. a ≤ℤ x) (λ e. ≤ℤ_trans h (le_of_lt b lo e)) (λ e. g) (λ e k. h))

  -- a clip to a wider range before changes nothing
  pub clamp-after_wider : {from to : ℤ} → from ≤ℤ lo → hi ≤ℤ to → (z : ℤ) → clamp lo hi (clamp from to z) ≡ clamp lo hi z
  clamp-after_wider {from} {to} h k z =
      clamp_cases from to z (λ x. clamp lo hi x ≡ clamp lo hi z)
      (λ e. clamp_below h ∙ sym (clamp_below (≤ℤ_trans (le_of_lt z from e) h)))
      (λ e. clamp_above k ∙ sym (clamp_above (≤ℤ_trans k (le_of_lt to z e))))
      (λ e f. refl)

-- ---- into 0..top: the clipped number is a natural number, at most top
pub clamp-sample : (top : ℕ) (z : ℤ) → (nat_abs (clamp (pos 0) (pos top) z) ≤ top) × (pos (nat_abs (clamp (pos 0) (pos top) z)) ≡ clamp (pos 0) (pos top) z)
clamp-sample top z =
    clamp_cases (pos 0) (pos top) z (λ x. (nat_abs x ≤ top) × (pos (nat_abs x) ≡ x)) (λ e. (omega arith, refl)) (λ e. (omega arith, refl)) (λ h k. go z h k)
  where
    go : (z : ℤ) → pos 0 ≤ℤ z → z ≤ℤ pos top → (nat_abs z ≤ top) × (pos (nat_abs z) ≡ z)
    go (pos n) h k = (leb→le n top k.le, refl)
    go (negsuc n) h k = absurd h.le

pub clamp_bound : (lo hi : ℤ) {m : ℕ} → nat_abs lo ≤ m → nat_abs hi ≤ m → (z : ℤ) → nat_abs (clamp lo hi z) ≤ m
clamp_bound lo hi {m} p q z = clamp_cases lo hi z (λ x. nat_abs x ≤ m) (λ e. p) (λ e. q) (λ h k. abs-between h k p q)

-- ---- clipping moves with its ends
-- a number clipped, all three k more
pub clamp_moved : (lo hi z k : ℤ) → clamp (lo +ℤ k) (hi +ℤ k) (z +ℤ k) ≡ clamp lo hi z +ℤ k
unfolding clamp
clamp_moved lo hi z k = (λ i. cond (lt_moved z lo k i) (lo +ℤ k) (cond (lt_moved hi z k i) (hi +ℤ k) (z +ℤ k))) ∙ pick (lt_z z lo) (lt_z hi z)
  where
    pick : (s t : Bool) → cond s (lo +ℤ k) (cond t (hi +ℤ k) (z +ℤ k)) ≡ cond s lo (cond t hi z) +ℤ k
    pick true t = refl
    pick false true = refl
    pick false false = refl
