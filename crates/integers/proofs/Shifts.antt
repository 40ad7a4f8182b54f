-- A signed shift to the right is the whole division by a power of two, at every width and for every number of bits; and whole divisions one
-- after another, by which a sum is brought back by shifts alone. Assumes nothing.
use mathlib.Core.Path.{◌≡◌, refl, sym, ap, ◌∙◌, subst}
use mathlib.Core.List.{[], ◌∷◌}
use Prim.Native.Nat.{ℕ, suc, ◌+◌, ◌*◌, ◌/◌, ◌≤◌, ◌<◌}
use native.Mathlib.Nat.{mul-suc, mul-le-mul_left, mul_assoc}
use native.Mathlib.Omega.{arith}
use lib.Dec.{lit<}
use lib.IntN.{ℤ, pos, negsuc, ◌+ℤ◌, ◌-ℤ◌, ◌*ℤ◌, *ℤ-one, one}
use lib.Signed.{shr_z, mag_shr}
use mir.Syntax.{Width}
use mir.Val.{SFits, to_z, of_z}
use mir.ValLaws.{to_z-of_z, sfits_le}
use Rattle.integers.specs.Numbers.{whole_divided, rounded}
use Rattle.integers.proofs.Products.{*ℤ_+ℤ, *ℤ_assoc}
use Rattle.integers.proofs.Linear.{linear, number, x₀, x₁, x₂, ◌⊕◌, ◌⊖◌}
use Rattle.integers.proofs.Rounding.{Divided, whole_divided_is, whole_divided_by}

-- ---- the shift
pub shift_is : (z : ℤ) (m : ℕ) → shr_z z m ≡ whole_divided z m
unfolding whole_divided
shift_is (pos a) m = refl
shift_is (negsuc a) m = refl

-- of a number y that w bits hold and that is z, as the machine reads it back: `shifted w32 _ fits is`. By k bits, m is 2^k
pub shifted : (w : Width) (m : ℕ) {y z : ℤ} → SFits w y → y ≡ z → to_z w (of_z w (shr_z (to_z w (of_z w y)) m)) ≡ whole_divided z m
shifted w m {y} {z} f e =
    to_z-of_z w (shr_z Y m) (sfits_le (mag_shr Y m) (subst (SFits w) (sym (to_z-of_z w y f)) f)) ∙ shift_is Y m ∙ ap (λ (x : ℤ). whole_divided x m) (to_z-of_z w y f ∙ e)
  where
    Y : ℤ
    Y = to_z w (of_z w y)

-- ---- whole divisions: k · d more is k more
pub whole_divided_more : (d : ℕ) (z k : ℤ) → 0 < d → whole_divided (z +ℤ pos d *ℤ k) d ≡ whole_divided z d +ℤ k
whole_divided_more d z k some = whole_divided_by (record { rest = q.rest; below = q.below; sum = more })
  where
    q : Divided d z (whole_divided z d)
    q = whole_divided_is d some z

    Q : ℤ
    Q = whole_divided z d

    more : z +ℤ pos d *ℤ k ≡ pos d *ℤ (Q +ℤ k) +ℤ pos q.rest
    more =
        ap (λ (x : ℤ). x +ℤ pos d *ℤ k) q.sum
        ∙ linear ((pos d *ℤ Q) ∷ pos q.rest ∷ (pos d *ℤ k) ∷ []) (x₀ ⊕ x₁ ⊕ x₂) (x₀ ⊕ x₂ ⊕ x₁) tt
        ∙ ap (λ (x : ℤ). x +ℤ pos q.rest) (sym (*ℤ_+ℤ (pos d) Q k))

-- by a and then by b is by a · b
pub whole_divided_twice : (a b : ℕ) (z : ℤ) → 0 < a → 0 < b → whole_divided (whole_divided z a) b ≡ whole_divided z (a * b)
whole_divided_twice a b z some_a some_b = sym (whole_divided_by (record { rest = a * q.rest + p.rest; below = low; sum = whole }))
  where
    P : ℤ
    P = whole_divided z a

    p : Divided a z P
    p = whole_divided_is a some_a z

    Q : ℤ
    Q = whole_divided P b

    q : Divided b P Q
    q = whole_divided_is b some_b P

    low : a * q.rest + p.rest < a * b
    low = let l : suc q.rest ≤ b = q.below in omega (arith, p.below, mul-suc a q.rest, mul-le-mul_left a l)

    whole : z ≡ pos (a * b) *ℤ Q +ℤ pos (a * q.rest + p.rest)
    whole =
        p.sum ∙ ap (λ (x : ℤ). pos a *ℤ x +ℤ pos p.rest) q.sum
        ∙ ap (λ (x : ℤ). x +ℤ pos p.rest) (*ℤ_+ℤ (pos a) (pos b *ℤ Q) (pos q.rest) ∙ ap (λ (x : ℤ). x +ℤ pos (a * q.rest)) (sym (*ℤ_assoc (pos a) (pos b) Q)))
        ∙ linear ((pos (a * b) *ℤ Q) ∷ pos (a * q.rest) ∷ pos p.rest ∷ []) (x₀ ⊕ x₁ ⊕ x₂) (x₀ ⊕ (x₁ ⊕ x₂)) tt

-- ---- so a number is rounded
half : (h : ℕ) → h * 2 / 2 ≡ h
half h = omega arith

-- with no sum that wraps: divided by the half, one more, and halved
pub rounded_by_halves : (h : ℕ) (s : ℤ) → 0 < h → whole_divided (whole_divided s h +ℤ pos 1) 2 ≡ rounded (h * 2) s
unfolding rounded one
rounded_by_halves h s some =
    ap (λ (x : ℤ). whole_divided x 2) (sym (whole_divided_more h s (pos 1) some))
    ∙ whole_divided_twice h 2 (s +ℤ pos h *ℤ pos 1) some (lit< tt)
    ∙ ap (λ (x : ℤ). whole_divided (s +ℤ x) (h * 2)) (*ℤ-one (pos h))
    ∙ ap (λ (k : ℕ). whole_divided (s +ℤ pos k) (h * 2)) (sym (half h))

-- at two levels, a · u − v by a · 2 · h, from two numbers that are each shorter
pub rounded_by_levels : (a h : ℕ) (u v : ℤ) → 0 < a → 0 < h → whole_divided (u +ℤ whole_divided (pos 0 -ℤ v) a +ℤ pos h) (h * 2) ≡ rounded (a * (h * 2)) (pos a *ℤ u -ℤ v)
unfolding rounded
rounded_by_levels a h u v some_a some_h =
    ap (λ (x : ℤ). whole_divided x (h * 2)) (linear (u ∷ pos h ∷ whole_divided (pos 0 -ℤ v) a ∷ []) (x₀ ⊕ x₂ ⊕ x₁) (x₂ ⊕ (x₀ ⊕ x₁)) tt ∙ sym (whole_divided_more a (pos 0 -ℤ v) (u +ℤ pos h) some_a))
    ∙ whole_divided_twice a (h * 2) (pos 0 -ℤ v +ℤ pos a *ℤ (u +ℤ pos h)) some_a (omega arith)
    ∙ ap (λ (x : ℤ). whole_divided x (a * (h * 2))) (ap (λ (x : ℤ). (pos 0 -ℤ v) +ℤ x) (*ℤ_+ℤ (pos a) u (pos h)) ∙ linear (v ∷ (pos a *ℤ u) ∷ pos (a * h) ∷ []) ((number (pos 0) ⊖ x₀) ⊕ (x₁ ⊕ x₂)) (x₁ ⊖ x₀ ⊕ x₂) tt)
    ∙ ap (λ (k : ℕ). whole_divided (pos a *ℤ u -ℤ v +ℤ pos k) (a * (h * 2))) (sym (ap (λ (k : ℕ). k / 2) (sym (mul_assoc a h 2)) ∙ half (a * h)))
