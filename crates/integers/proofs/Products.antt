-- The laws of ℤ's product that lib.IntN leaves out: it distributes over sums and is associative. Assumes nothing.
use mathlib.Core.Path.{◌≡◌, refl, sym, ◌∙◌, ap}
use Prim.Native.Nat.{zero, suc, ◌*◌}
use lib.IntN.{ℤ, pos, negsuc, suc_ℤ, pred_ℤ, neg_ℤ, ◌+ℤ◌, ◌*ℤ◌, ◌-ℤ◌, +ℤ_assoc, +ℤ_comm, +ℤ_idl, suc_ℤ-+ℤ, pred_ℤ-+ℤ, suc_ℤ-*ℤ, pred_ℤ-*ℤ, zero-*ℤ, *ℤ_comm, *ℤ-one, one, neg_ℤ-neg_ℤ}

-- (x + y) + z = (x + z) + y
pub +ℤ_right_comm : (x y z : ℤ) → (x +ℤ y) +ℤ z ≡ (x +ℤ z) +ℤ y
+ℤ_right_comm x y z = +ℤ_assoc x y z ∙ ap (λ t. x +ℤ t) (+ℤ_comm y z) ∙ sym (+ℤ_assoc x z y)

-- (a + b) + (c + d) = (a + c) + (b + d)
pub +ℤ_interchange : (a b c d : ℤ) → (a +ℤ b) +ℤ (c +ℤ d) ≡ (a +ℤ c) +ℤ (b +ℤ d)
+ℤ_interchange a b c d =
    sym (+ℤ_assoc (a +ℤ b) c d) ∙ ap (λ t. t +ℤ d) (+ℤ_right_comm a b c) ∙ +ℤ_assoc (a +ℤ c) b d

pub negℤ_*ℤ : (b c : ℤ) → neg_ℤ b *ℤ c ≡ neg_ℤ (b *ℤ c)
negℤ_*ℤ (pos zero) c = zero-*ℤ c ∙ ap neg_ℤ (sym (zero-*ℤ c))
negℤ_*ℤ (pos (suc n)) (pos m) = refl
negℤ_*ℤ (pos (suc n)) (negsuc m) = sym (neg_ℤ-neg_ℤ (pos (suc n * suc m)))
negℤ_*ℤ (negsuc n) (pos m) = sym (neg_ℤ-neg_ℤ (pos (suc n * m)))
negℤ_*ℤ (negsuc n) (negsuc m) = refl

pub one_*ℤ : (z : ℤ) → pos 1 *ℤ z ≡ z
unfolding one
one_*ℤ z = *ℤ_comm (pos 1) z ∙ *ℤ-one z

pub minus_one_*ℤ : (z : ℤ) → negsuc 0 *ℤ z ≡ neg_ℤ z
minus_one_*ℤ z = negℤ_*ℤ (pos 1) z ∙ ap neg_ℤ (one_*ℤ z)

-- ---- over a sum: by induction on the first factor, up and down from 0
sum_zero : (b c : ℤ) → (pos zero +ℤ b) *ℤ c ≡ pos zero *ℤ c +ℤ b *ℤ c
sum_zero b c = ap (λ x. x *ℤ c) (+ℤ_idl b) ∙ sym (+ℤ_idl (b *ℤ c)) ∙ ap (λ x. x +ℤ b *ℤ c) (sym (zero-*ℤ c))

sum_suc : (m b c : ℤ) → (m +ℤ b) *ℤ c ≡ m *ℤ c +ℤ b *ℤ c → (suc_ℤ m +ℤ b) *ℤ c ≡ suc_ℤ m *ℤ c +ℤ b *ℤ c
sum_suc m b c ih =
    ap (λ x. x *ℤ c) (suc_ℤ-+ℤ m b) ∙ suc_ℤ-*ℤ (m +ℤ b) c ∙ ap (λ x. x +ℤ c) ih ∙ +ℤ_right_comm (m *ℤ c) (b *ℤ c) c
    ∙ ap (λ x. x +ℤ b *ℤ c) (sym (suc_ℤ-*ℤ m c))

sum_pred : (m b c : ℤ) → (m +ℤ b) *ℤ c ≡ m *ℤ c +ℤ b *ℤ c → (pred_ℤ m +ℤ b) *ℤ c ≡ pred_ℤ m *ℤ c +ℤ b *ℤ c
sum_pred m b c ih =
    ap (λ x. x *ℤ c) (pred_ℤ-+ℤ m b) ∙ pred_ℤ-*ℤ (m +ℤ b) c ∙ ap (λ x. x -ℤ c) ih ∙ +ℤ_right_comm (m *ℤ c) (b *ℤ c) (neg_ℤ c)
    ∙ ap (λ x. x +ℤ b *ℤ c) (sym (pred_ℤ-*ℤ m c))

pub +ℤ_*ℤ : (a b c : ℤ) → (a +ℤ b) *ℤ c ≡ a *ℤ c +ℤ b *ℤ c
+ℤ_*ℤ (pos zero) b c = sum_zero b c
+ℤ_*ℤ (pos (suc n)) b c = sum_suc (pos n) b c (+ℤ_*ℤ (pos n) b c)
+ℤ_*ℤ (negsuc zero) b c = sum_pred (pos zero) b c (sum_zero b c)
+ℤ_*ℤ (negsuc (suc n)) b c = sum_pred (negsuc n) b c (+ℤ_*ℤ (negsuc n) b c)

pub *ℤ_+ℤ : (a b c : ℤ) → a *ℤ (b +ℤ c) ≡ a *ℤ b +ℤ a *ℤ c
*ℤ_+ℤ a b c = *ℤ_comm a (b +ℤ c) ∙ +ℤ_*ℤ b c a ∙ (λ i. *ℤ_comm b a i +ℤ *ℤ_comm c a i)

-- ---- associative, in the same way
assoc_zero : (b c : ℤ) → (pos zero *ℤ b) *ℤ c ≡ pos zero *ℤ (b *ℤ c)
assoc_zero b c = ap (λ x. x *ℤ c) (zero-*ℤ b) ∙ zero-*ℤ c ∙ sym (zero-*ℤ (b *ℤ c))

assoc_suc : (m b c : ℤ) → (m *ℤ b) *ℤ c ≡ m *ℤ (b *ℤ c) → (suc_ℤ m *ℤ b) *ℤ c ≡ suc_ℤ m *ℤ (b *ℤ c)
assoc_suc m b c ih =
    ap (λ x. x *ℤ c) (suc_ℤ-*ℤ m b) ∙ +ℤ_*ℤ (m *ℤ b) b c ∙ ap (λ x. x +ℤ b *ℤ c) ih ∙ sym (suc_ℤ-*ℤ m (b *ℤ c))

assoc_pred : (m b c : ℤ) → (m *ℤ b) *ℤ c ≡ m *ℤ (b *ℤ c) → (pred_ℤ m *ℤ b) *ℤ c ≡ pred_ℤ m *ℤ (b *ℤ c)
assoc_pred m b c ih =
    ap (λ x. x *ℤ c) (pred_ℤ-*ℤ m b) ∙ +ℤ_*ℤ (m *ℤ b) (neg_ℤ b) c ∙ (λ i. ih i +ℤ negℤ_*ℤ b c i) ∙ sym (pred_ℤ-*ℤ m (b *ℤ c))

pub *ℤ_assoc : (a b c : ℤ) → (a *ℤ b) *ℤ c ≡ a *ℤ (b *ℤ c)
*ℤ_assoc (pos zero) b c = assoc_zero b c
*ℤ_assoc (pos (suc n)) b c = assoc_suc (pos n) b c (*ℤ_assoc (pos n) b c)
*ℤ_assoc (negsuc zero) b c = assoc_pred (pos zero) b c (assoc_zero b c)
*ℤ_assoc (negsuc (suc n)) b c = assoc_pred (negsuc n) b c (*ℤ_assoc (negsuc n) b c)

pub *ℤ_left_comm : (a b c : ℤ) → a *ℤ (b *ℤ c) ≡ b *ℤ (a *ℤ c)
*ℤ_left_comm a b c = sym (*ℤ_assoc a b c) ∙ ap (λ x. x *ℤ c) (*ℤ_comm a b) ∙ *ℤ_assoc b a c

pub *ℤ_negℤ : (a b : ℤ) → a *ℤ neg_ℤ b ≡ neg_ℤ (a *ℤ b)
*ℤ_negℤ a b = *ℤ_comm a (neg_ℤ b) ∙ negℤ_*ℤ b a ∙ ap neg_ℤ (*ℤ_comm b a)

pub *ℤ_sub : (a b c : ℤ) → a *ℤ (b -ℤ c) ≡ a *ℤ b -ℤ a *ℤ c
*ℤ_sub a b c = *ℤ_+ℤ a b (neg_ℤ c) ∙ ap (λ x. a *ℤ b +ℤ x) (*ℤ_negℤ a c)
