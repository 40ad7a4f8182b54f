-- How large a whole number is, as a bound on `nat_abs`, a natural number, which `omega` reads. Bounds of sums, differences,
-- products, shifts and of what the machine reads back from a signed local's bits, at every width; and a search that finds them.
-- Assumes nothing.
use mathlib.Core.Path.{◌≡◌, refl, sym, ap, ◌∙◌, subst}
use mathlib.Core.Bool.{Bool, true, false, not, cond}
use Prim.Native.Nat.{ℕ, zero, suc, ◌+◌, ◌*◌, ◌-◌, ◌/◌, ◌≤◌, ◌<◌, ◌^◌}
use native.Mathlib.Decide.{dec_le}
use native.Mathlib.Omega.{arith}
use native.Mathlib.Nat.{mul-le-mul, le_trans, le_refl, div-zero, le-div_iff_mul-le, div-mul-le_self}
use lib.Dec.{T, ltb, ltb→lt, nltb→le, lit<}
use lib.IntN.{ℤ, pos, negsuc, neg_ℤ, nat_abs, sub_ℕ, ◌+ℤ◌, ◌-ℤ◌, ◌*ℤ◌}
use lib.Signed.{mag, shr_z}
use borrow.Author.Tests.{le-ltb, lt-ltb}
use mir.Syntax.{Width, w8, w16, w32, w64, w128}
use mir.Val.{SFits, to_z, of_z, sel, hbits, bits}
use mir.ValLaws.{to_z-of_z}
use Rattle.integers.proofs.Tests.{cond_cases}

-- ---- an opposite, a sum, a difference, a product
pub abs_neg : (z : ℤ) → nat_abs (neg_ℤ z) ≡ nat_abs z
abs_neg (pos zero) = refl
abs_neg (pos (suc n)) = refl
abs_neg (negsuc n) = refl

abs_subℕ : (a b : ℕ) → nat_abs (sub_ℕ a b) ≤ a + b
abs_subℕ a b = cond_cases (ltb a b) (negsuc (b - suc a)) (pos (a - b)) (λ z. nat_abs z ≤ a + b) (λ t. low (ltb→lt a b t)) (λ t. omega arith)
  where
    low : a < b → suc (b - suc a) ≤ a + b
    low h = omega arith

pub abs_add : (a b : ℤ) → nat_abs (a +ℤ b) ≤ nat_abs a + nat_abs b
abs_add (pos a) (pos b) = omega arith
abs_add (pos a) (negsuc b) = abs_subℕ a (suc b)
abs_add (negsuc a) (pos b) = omega (arith, abs_subℕ b (suc a))
abs_add (negsuc a) (negsuc b) = omega arith

pub abs_sub : (a b : ℤ) → nat_abs (a -ℤ b) ≤ nat_abs a + nat_abs b
abs_sub a b = omega (arith, abs_add a (neg_ℤ b), abs_neg b)

pub abs_mul : (a b : ℤ) → nat_abs (a *ℤ b) ≡ nat_abs a * nat_abs b
abs_mul (pos a) (pos b) = refl
abs_mul (pos a) (negsuc b) = abs_neg (pos (a * suc b))
abs_mul (negsuc a) (pos b) = abs_neg (pos (suc a * b))
abs_mul (negsuc a) (negsuc b) = refl

-- the machine's shift to the right
pub div_monotone : (d : ℕ) {a b : ℕ} → a ≤ b → a / d ≤ b / d
div_monotone zero {a} {b} h = omega (arith, div-zero a, div-zero b)
div_monotone (suc d) {a} {b} h = (le-div_iff_mul-le {k = suc d} (omega arith)).1 (le_trans (div-mul-le_self a (suc d)) h)

pub abs_shift : (z : ℤ) (d : ℕ) {b : ℕ} → nat_abs z ≤ b → nat_abs (shr_z z d) ≤ suc (b / d)
abs_shift (pos a) d {b} h = omega (arith, div_monotone d h)
abs_shift (negsuc a) d {b} h = let l : a ≤ b = omega arith in omega (arith, div_monotone d l)

-- the difference of two natural numbers, by which is larger; and how far apart they are
pub minus_pos : (a b : ℕ) → b ≤ a → pos a -ℤ pos b ≡ pos (a - b)
minus_pos a zero h = ap pos (omega arith)
minus_pos a (suc b) h = ap (λ (t : Bool). cond t (negsuc (suc b - suc a)) (pos (a - suc b))) (le-ltb a (suc b) h)

pub minus_neg : (a b : ℕ) → a < b → pos a -ℤ pos b ≡ negsuc (b - suc a)
minus_neg a zero h = absurd (omega arith)
minus_neg a (suc b) h = ap (λ (t : Bool). cond t (negsuc (suc b - suc a)) (pos (a - suc b))) (lt-ltb a (suc b) h)

pub abs_minus : (a b : ℕ) → nat_abs (pos a -ℤ pos b) ≡ (a - b) + (b - a)
abs_minus a b = go (dec_le b a)
  where
    go : Dec (b ≤ a) → nat_abs (pos a -ℤ pos b) ≡ (a - b) + (b - a)
    go (yes h) = ap nat_abs (minus_pos a b h) ∙ omega arith
    go (no h) = ap nat_abs (minus_neg a b (omega arith)) ∙ omega arith

-- ---- what is read back from a signed local is no larger than what was written, whether or not that fits
read_pos : (H N n : ℕ) → 0 < H → N ≡ H + H → (t : Bool) → (T (not t) → H ≤ n) → nat_abs (sel t (pos n) (negsuc (N - suc n))) ≤ n
read_pos H N n some e true h = omega arith
read_pos H N n some e false h = let l : H ≤ n = h tt in omega arith

read_neg : (H N n : ℕ) → N ≡ H + H → (t : Bool) → (T t → N - suc n < H) → nat_abs (sel t (pos (N - suc n)) (negsuc (N - suc (N - suc n)))) ≤ suc n
read_neg H N n e true h = let l : N - suc n < H = h tt in omega arith
read_neg H N n e false h = omega arith

-- half of a width's numbers are below 0
halves : (w : Width) → (0 < 2 ^ hbits w) × (2 ^ bits w ≡ 2 ^ hbits w + 2 ^ hbits w)
halves w8 = (lit< tt, refl)
halves w16 = (lit< tt, refl)
halves w32 = (lit< tt, refl)
halves w64 = (lit< tt, refl)
halves w128 = (lit< tt, refl)

pub abs_read : (w : Width) (z : ℤ) → nat_abs (to_z w (of_z w z)) ≤ nat_abs z
abs_read w (pos n) = let h = halves w in read_pos (2 ^ hbits w) (2 ^ bits w) n h.0 h.1 (ltb n (2 ^ hbits w)) (nltb→le n (2 ^ hbits w))
abs_read w (negsuc n) =
    let m = 2 ^ bits w - suc n in
    read_neg (2 ^ hbits w) (2 ^ bits w) n (halves w).1 (ltb m (2 ^ hbits w)) (ltb→lt m (2 ^ hbits w))

-- ---- a number that is small enough fits
pub mag_abs : (z : ℤ) → mag z ≤ nat_abs z
mag_abs (pos n) = omega arith
mag_abs (negsuc n) = omega arith

pub abs_mag : (z : ℤ) → nat_abs z ≤ suc (mag z)
abs_mag (pos n) = omega arith
abs_mag (negsuc n) = omega arith

pub fits_abs : (w : Width) (z : ℤ) → nat_abs z < 2 ^ hbits w → SFits w z
fits_abs w z h = record { sfits = omega (arith, mag_abs z) }

-- ---- the same for `search`, which finds a bound from the form of the number: `fits (search bounds depth 14) tt`
pub record Bound (z : ℤ) : Type 0 where
  pub most : ℕ
  pub holds : nat_abs z ≤ most

abbrev pub bound_leaf : {z : ℤ} {n : ℕ} → nat_abs z ≤ n → Bound z
bound_leaf {z} {n} p = record { most = n; holds = p }

abbrev pub bound_pos : (n : ℕ) → Bound (pos n)
bound_pos n = record { most = n; holds = le_refl n }

abbrev pub bound_negsuc : (n : ℕ) → Bound (negsuc n)
bound_negsuc n = record { most = suc n; holds = le_refl (suc n) }

abbrev pub bound_neg : {z : ℤ} → Bound z → Bound (neg_ℤ z)
bound_neg {z} p = record { most = p.most; holds = omega (arith, abs_neg z, p.holds) }

abbrev pub bound_add : {a b : ℤ} → Bound a → Bound b → Bound (a +ℤ b)
bound_add {a} {b} p q = record { most = p.most + q.most; holds = omega (arith, abs_add a b, p.holds, q.holds) }

abbrev pub bound_sub : {a b : ℤ} → Bound a → Bound b → Bound (a -ℤ b)
bound_sub {a} {b} p q = record { most = p.most + q.most; holds = omega (arith, abs_sub a b, p.holds, q.holds) }

abbrev pub bound_mul : {a b : ℤ} → Bound a → Bound b → Bound (a *ℤ b)
bound_mul {a} {b} p q = record {
  most = p.most * q.most;
  holds = subst (λ (n : ℕ). n ≤ p.most * q.most) (sym (abs_mul a b)) (mul-le-mul p.holds q.holds);
}

abbrev pub bound_shift : (z : ℤ) (d : ℕ) → Bound z → Bound (shr_z z d)
bound_shift z d p = record { most = suc (p.most / d); holds = abs_shift z d p.holds }

abbrev pub bound_read : (w : Width) {z : ℤ} → Bound z → Bound (to_z w (of_z w z))
bound_read w {z} p = record { most = p.most; holds = le_trans (abs_read w z) p.holds }

-- at the width of the engine's signed numbers: `search` finds no width by itself
abbrev pub bound_read_32 : {z : ℤ} → Bound z → Bound (to_z w32 (of_z w32 z))
bound_read_32 = bound_read w32

pub ruleset bounds = (bound_add, bound_sub, bound_mul, bound_shift, bound_read_32, bound_pos, bound_negsuc, bound_neg, bound_leaf)

pub fits : {w : Width} {z : ℤ} (b : Bound z) → T (ltb b.most (2 ^ hbits w)) → SFits w z
fits {w} {z} b t = fits_abs w z (let l : b.most < 2 ^ hbits w = ltb→lt b.most (2 ^ hbits w) t in omega (arith, b.holds))

-- ---- a call's signed result r, as the machine reads it back: `read_is w32 c.f.ok c.f.ensures`; and its size
pub read_is : (w : Width) {r v : ℤ} → mag r < 2 ^ hbits w → r ≡ v → to_z w (of_z w r) ≡ v
read_is w {r} f e = to_z-of_z w r (record { sfits = f }) ∙ e

pub read_bound : (w : Width) {r v : ℤ} {m : ℕ} → r ≡ v → nat_abs v ≤ m → nat_abs (to_z w (of_z w r)) ≤ m
read_bound w {r} {v} {m} e h = le_trans (abs_read w r) (subst (λ (z : ℤ). nat_abs z ≤ m) (sym e) h)
