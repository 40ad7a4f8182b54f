-- The laws of whole division and of the rounded quotient, below zero too. What uses `rounded` uses these laws, not its text.
-- Assumes nothing.
use mathlib.Core.Path.{◌≡◌, refl, sym, ap, ◌∙◌, subst}
use mathlib.Core.List.{[], ◌∷◌}
use Prim.Native.Nat.{ℕ, zero, suc, ◌+◌, ◌*◌, ◌-◌, ◌/◌, ◌%◌, ◌≤◌, ◌<◌}
use native.Mathlib.Nat.{div-add-mod, mod-lt, mul-suc, mul-le-mul_left}
use native.Mathlib.Decide.{dec_le}
use native.Mathlib.Omega.{arith}
use lib.Dec.{leb→le, le→leb}
use lib.IntN.{ℤ, pos, negsuc, neg_ℤ, nat_abs, ◌+ℤ◌, ◌-ℤ◌, ◌*ℤ◌}
use lib.Signed.{◌≤ℤ◌}
use Rattle.integers.specs.Numbers.{whole_divided, rounded}
use Rattle.integers.proofs.Products.{*ℤ_sub}
use Rattle.integers.proofs.Linear.{linear, eq_of_sub, x₀, x₁, x₂, neg, ◌⊕◌, ◌⊖◌}
use Rattle.integers.proofs.Order.{≤ℤ_add}
use Rattle.integers.proofs.Bounds.{abs_mul, abs_add, abs_minus, div_monotone}

-- ---- whole division: z = d · q + r with 0 ≤ r < d
pub record Divided (d : ℕ) (z q : ℤ) : Type 0 where
  pub rest : ℕ
  pub below : rest < d
  pub sum : z ≡ pos d *ℤ q +ℤ pos rest

pub whole_divided_is : (d : ℕ) → 0 < d → (z : ℤ) → Divided d z (whole_divided z d)
unfolding whole_divided
whole_divided_is d some (pos a) = record { rest = a % d; below = mod-lt a some; sum = ap pos (sym (div-add-mod a d)) }
whole_divided_is d some (negsuc a) = record { rest = r; below = omega arith; sum = back }
  where
    l : a % d < d
    l = mod-lt a some

    r : ℕ
    r = d - suc (a % d)

    whole : d * suc (a / d) ≡ suc a + r
    whole = omega (arith, div-add-mod a d, mul-suc d (a / d), l)

    back : negsuc a ≡ neg_ℤ (pos (d * suc (a / d))) +ℤ pos r
    back = linear (pos (suc a) ∷ pos r ∷ []) (neg x₀) (neg (x₀ ⊕ x₁) ⊕ x₁) tt ∙ ap (λ (k : ℕ). neg_ℤ (pos k) +ℤ pos r) (sym whole)

-- two multiples of d that are less than d apart are the same
close : (d k : ℕ) → d * k < d → k ≡ 0
close d zero h = refl
close d (suc k) h = absurd (omega (arith, mul-suc d k))

abs_zero : (z : ℤ) → nat_abs z ≡ 0 → z ≡ pos 0
abs_zero (pos n) e = ap pos e
abs_zero (negsuc n) e = absurd (omega arith)

pub multiple_close : (d : ℕ) (a b : ℤ) → nat_abs (pos d *ℤ a -ℤ pos d *ℤ b) < d → a ≡ b
multiple_close d a b h = eq_of_sub a b (abs_zero (a -ℤ b) (close d (nat_abs (a -ℤ b)) (subst (λ (n : ℕ). n < d) (ap nat_abs (sym (*ℤ_sub (pos d) a b)) ∙ abs_mul (pos d) (a -ℤ b)) h)))

-- so there is one quotient
pub one_quotient : {d : ℕ} {z p q : ℤ} → Divided d z p → Divided d z q → p ≡ q
one_quotient {d} {z} {p} {q} s t = multiple_close d p q (subst (λ (x : ℤ). nat_abs x < d) apart near)
  where
    apart : pos t.rest -ℤ pos s.rest ≡ pos d *ℤ p -ℤ pos d *ℤ q
    apart =
        linear ((pos d *ℤ p) ∷ pos s.rest ∷ pos t.rest ∷ []) (x₂ ⊖ x₁) (x₀ ⊖ ((x₀ ⊕ x₁) ⊖ x₂)) tt
        ∙ ap (λ (x : ℤ). pos d *ℤ p -ℤ (x -ℤ pos t.rest)) (sym s.sum ∙ t.sum)
        ∙ linear ((pos d *ℤ p) ∷ (pos d *ℤ q) ∷ pos t.rest ∷ []) (x₀ ⊖ ((x₁ ⊕ x₂) ⊖ x₂)) (x₀ ⊖ x₁) tt

    near : nat_abs (pos t.rest -ℤ pos s.rest) < d
    near = omega (arith, abs_minus t.rest s.rest, s.below, t.below)

pub whole_divided_by : {d : ℕ} {z q : ℤ} → Divided d z q → whole_divided z d ≡ q
whole_divided_by {d} {z} s = one_quotient (whole_divided_is d (omega (arith, s.below)) z) s

pub whole_divided_monotone : (d : ℕ) {a b : ℤ} → 0 < d → a ≤ℤ b → whole_divided a d ≤ℤ whole_divided b d
whole_divided_monotone d {a} {b} some h = go a b h
  where
    go : (a b : ℤ) → a ≤ℤ b → whole_divided a d ≤ℤ whole_divided b d
    go (pos a) (pos b) h = unfold whole_divided in record { le = le→leb (a / d) (b / d) (div_monotone d (leb→le a b h.le)) }
    go (pos a) (negsuc b) h = absurd h.le
    go (negsuc a) (pos b) h = unfold whole_divided in record { le = tt }
    go (negsuc a) (negsuc b) h = unfold whole_divided in record { le = le→leb (b / d) (a / d) (div_monotone d (leb→le b a h.le)) }

-- ---- the rounded quotient
pub rounded_monotone : (d : ℕ) {a b : ℤ} → 0 < d → a ≤ℤ b → rounded d a ≤ℤ rounded d b
unfolding rounded
rounded_monotone d some h = whole_divided_monotone d some (≤ℤ_add h _)

-- d times it is within half of d of the number
pub rounded_near : (d : ℕ) (s : ℤ) → 0 < d → 2 * nat_abs (pos d *ℤ rounded d s -ℤ s) ≤ d
unfolding rounded
rounded_near d s some = subst (λ (x : ℤ). 2 * nat_abs x ≤ d) apart near
  where
    q : Divided d (s +ℤ pos (d / 2)) (whole_divided (s +ℤ pos (d / 2)) d)
    q = whole_divided_is d some (s +ℤ pos (d / 2))

    Q : ℤ
    Q = pos d *ℤ whole_divided (s +ℤ pos (d / 2)) d

    apart : pos (d / 2) -ℤ pos q.rest ≡ Q -ℤ s
    apart =
        linear (s ∷ pos (d / 2) ∷ pos q.rest ∷ []) (x₁ ⊖ x₂) ((x₀ ⊕ x₁) ⊖ x₂ ⊖ x₀) tt
        ∙ ap (λ (x : ℤ). x -ℤ pos q.rest -ℤ s) q.sum
        ∙ linear (Q ∷ pos q.rest ∷ s ∷ []) ((x₀ ⊕ x₁) ⊖ x₁ ⊖ x₂) (x₀ ⊖ x₂) tt

    near : 2 * nat_abs (pos (d / 2) -ℤ pos q.rest) ≤ d
    near = omega (arith, abs_minus (d / 2) q.rest, q.below)

-- a multiple of d comes back exactly
pub rounded_exact : (d : ℕ) (z : ℤ) → 0 < d → rounded d (pos d *ℤ z) ≡ z
rounded_exact d z some = multiple_close d (rounded d (pos d *ℤ z)) z (omega (arith, rounded_near d (pos d *ℤ z) some))

-- a number within d · m rounds to one within m
pub rounded_bound : (d m : ℕ) (s : ℤ) → 0 < d → nat_abs s ≤ d * m → nat_abs (rounded d s) ≤ m
rounded_bound d m s some h = small (nat_abs R) (subst (λ (n : ℕ). 2 * n ≤ d + 2 * nat_abs s) (abs_mul (pos d) R) (omega (arith, far, rounded_near d s some)))
  where
    R : ℤ
    R = rounded d s

    far : nat_abs (pos d *ℤ R) ≤ nat_abs (pos d *ℤ R -ℤ s) + nat_abs s
    far = subst (λ (x : ℤ). nat_abs x ≤ nat_abs (pos d *ℤ R -ℤ s) + nat_abs s) (linear ((pos d *ℤ R) ∷ s ∷ []) ((x₀ ⊖ x₁) ⊕ x₁) x₀ tt) (abs_add (pos d *ℤ R -ℤ s) s)

    small : (k : ℕ) → 2 * (d * k) ≤ d + 2 * nat_abs s → k ≤ m
    small k l = go (dec_le k m)
      where
        go : Dec (k ≤ m) → k ≤ m
        go (yes y) = y
        go (no n) = let more : suc m ≤ k = omega arith in absurd (omega (arith, mul-suc d m, mul-le-mul_left d more, l))
