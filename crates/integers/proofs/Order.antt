-- The order of ℤ: the laws that lib.Signed leaves out. Assumes nothing.
use mathlib.Core.Path.{◌≡◌, refl, sym, ap, ◌∙◌, subst}
use mathlib.Core.Bool.{Bool, true, false, not}
use mathlib.Core.List.{[], ◌∷◌}
use Prim.Native.Nat.{ℕ, zero, suc, ◌+◌, ◌-◌, ◌≤◌, ◌<◌}
use native.Mathlib.Nat.{le_trans, le_antisymm}
use native.Mathlib.Omega.{arith}
use lib.Dec.{T, ltb, leb→le, le→leb, ltb→lt}
use lib.IntN.{ℤ, pos, negsuc, neg_ℤ, nat_abs, ◌+ℤ◌, ◌-ℤ◌, +ℤ-neg_ℤ_cancel}
use lib.Signed.{lt_z, le_z, ◌≤ℤ◌, lt_z_no}
use Rattle.integers.proofs.Tests.{cond_cases, true_is, never}
use Rattle.integers.proofs.Linear.{linear, x₀, x₁, x₂, neg, ◌⊕◌}

-- ---- a ≤ b: b is a and a natural number more
pub le_more : (a : ℤ) (n : ℕ) → a ≤ℤ (a +ℤ pos n)
le_more (pos a) n = record { le = le→leb a (a + n) (omega arith) }
le_more (negsuc a) n = record {
  le = cond_cases (ltb n (suc a)) (negsuc (suc a - suc n)) (pos (n - suc a)) (λ z. T (le_z (negsuc a) z)) (λ t. le→leb (suc a - suc n) a (omega arith)) (λ t. tt);
}

pub more_of_le : {a b : ℤ} → a ≤ℤ b → (n : ℕ) × (b ≡ a +ℤ pos n)
more_of_le {a} {b} h = go a b h.le
  where
    far : (m b n : ℕ) → m ≡ n + suc b → negsuc b ≡ neg_ℤ (pos m) +ℤ pos n
    far m b n e = linear (pos n ∷ pos (suc b) ∷ []) (neg x₁) (neg (x₀ ⊕ x₁) ⊕ x₀) tt ∙ ap (λ (k : ℕ). neg_ℤ (pos k) +ℤ pos n) (sym e)

    go : (a b : ℤ) → T (le_z a b) → (n : ℕ) × (b ≡ a +ℤ pos n)
    go (pos a) (pos b) t = let l : a ≤ b = leb→le a b t in (b - a, ap pos (omega arith))
    go (pos a) (negsuc b) t = absurd t
    go (negsuc a) (pos b) t = (b + suc a, linear (pos b ∷ pos (suc a) ∷ []) x₀ (neg x₁ ⊕ (x₀ ⊕ x₁)) tt)
    go (negsuc a) (negsuc b) t = let l : b ≤ a = leb→le b a t in (a - b, far (suc a) b (a - b) (omega arith))

pub ≤ℤ_trans : {a b c : ℤ} → a ≤ℤ b → b ≤ℤ c → a ≤ℤ c
≤ℤ_trans {a} h k =
    let m = more_of_le h in
    let n = more_of_le k in
    subst (λ (z : ℤ). a ≤ℤ z) (sym (n.1 ∙ ap (λ (z : ℤ). z +ℤ pos n.0) m.1 ∙ linear (a ∷ pos m.0 ∷ pos n.0 ∷ []) (x₀ ⊕ x₁ ⊕ x₂) (x₀ ⊕ (x₁ ⊕ x₂)) tt)) (le_more a (m.0 + n.0))

pub ≤ℤ_antisym : {a b : ℤ} → a ≤ℤ b → b ≤ℤ a → a ≡ b
≤ℤ_antisym {a} {b} h k = go a b h.le k.le
  where
    go : (a b : ℤ) → T (le_z a b) → T (le_z b a) → a ≡ b
    go (pos a) (pos b) s t = ap pos (le_antisymm (leb→le a b s) (leb→le b a t))
    go (pos a) (negsuc b) s t = absurd s
    go (negsuc a) (pos b) s t = absurd t
    go (negsuc a) (negsuc b) s t = ap negsuc (le_antisymm (leb→le a b t) (leb→le b a s))

pub ≤ℤ_add : {a b : ℤ} → a ≤ℤ b → (c : ℤ) → (a +ℤ c) ≤ℤ (b +ℤ c)
≤ℤ_add {a} h c =
    let m = more_of_le h in
    subst (λ (z : ℤ). (a +ℤ c) ≤ℤ z) (sym (ap (λ (z : ℤ). z +ℤ c) m.1 ∙ linear (a ∷ pos m.0 ∷ c ∷ []) (x₀ ⊕ x₁ ⊕ x₂) (x₀ ⊕ x₂ ⊕ x₁) tt)) (le_more (a +ℤ c) m.0)

-- ---- a test that failed or passed
pub le_of_not_lt : (a b : ℤ) → lt_z a b ≡ false → b ≤ℤ a
le_of_not_lt a b e = go (lt_z a b) e (lt_z_no {a = a} {b = b})
  where
    go : (t : Bool) → t ≡ false → (T (not t) → b ≤ℤ a) → b ≤ℤ a
    go true e f = never e
    go false e f = f tt

lt_le : (a b : ℤ) → T (lt_z a b) → T (le_z a b)
lt_le (pos a) (pos b) t = let l : a < b = ltb→lt a b t in le→leb a b (omega arith)
lt_le (pos a) (negsuc b) t = t
lt_le (negsuc a) (pos b) t = tt
lt_le (negsuc a) (negsuc b) t = let l : b < a = ltb→lt b a t in le→leb b a (omega arith)

pub le_of_lt : (a b : ℤ) → lt_z a b ≡ true → a ≤ℤ b
le_of_lt a b e = record { le = lt_le a b (true_is e) }

pub not_lt_of_le : {a b : ℤ} → b ≤ℤ a → lt_z a b ≡ false
not_lt_of_le {a} {b} h = go a b h.le
  where
    no : (t : Bool) → (T t → ⊥) → t ≡ false
    no true f = absurd (f tt)
    no false f = refl

    go : (a b : ℤ) → T (le_z b a) → lt_z a b ≡ false
    go (pos a) (pos b) t = no (ltb a b) (λ s. let l : b ≤ a = leb→le b a t in let m : a < b = ltb→lt a b s in omega arith)
    go (pos a) (negsuc b) t = refl
    go (negsuc a) (pos b) t = absurd t
    go (negsuc a) (negsuc b) t = no (ltb b a) (λ s. let l : a ≤ b = leb→le a b t in let m : b < a = ltb→lt b a s in omega arith)

-- ---- what lies between two numbers is no larger than the larger of them
pub abs-between : {lo hi z : ℤ} {m : ℕ} → lo ≤ℤ z → z ≤ℤ hi → nat_abs lo ≤ m → nat_abs hi ≤ m → nat_abs z ≤ m
abs-between {lo} {hi} {z} {m} h k p q = go lo hi z h.le k.le p q
  where
    go : (lo hi z : ℤ) → T (le_z lo z) → T (le_z z hi) → nat_abs lo ≤ m → nat_abs hi ≤ m → nat_abs z ≤ m
    go lo (pos b) (pos c) h k p q = le_trans (leb→le c b k) q
    go lo (negsuc b) (pos c) h k p q = absurd k
    go (pos a) hi (negsuc c) h k p q = absurd h
    go (negsuc a) hi (negsuc c) h k p q = let l : c ≤ a = leb→le c a h in omega arith

-- and what is at most n from 0 lies within −n..n
pub abs_from : (n : ℕ) (z : ℤ) → nat_abs z ≤ n → neg_ℤ (pos n) ≤ℤ z
abs_from zero (pos a) b = record { le = le→leb 0 a (omega arith) }
abs_from (suc n) (pos a) b = record { le = tt }
abs_from zero (negsuc a) b = absurd (omega arith)
abs_from (suc n) (negsuc a) b = record { le = le→leb a n (omega arith) }

pub abs_to : (n : ℕ) (z : ℤ) → nat_abs z ≤ n → z ≤ℤ pos n
abs_to n (pos a) b = record { le = le→leb a n b }
abs_to n (negsuc a) b = record { le = tt }

-- an order test of two numbers, both k more
pub lt_moved : (a b k : ℤ) → lt_z (a +ℤ k) (b +ℤ k) ≡ lt_z a b
lt_moved a b k = go (lt_z (a +ℤ k) (b +ℤ k)) (lt_z a b) (λ e. not_lt_of_le (back (le_of_not_lt _ _ e))) (λ e. not_lt_of_le (≤ℤ_add (le_of_not_lt a b e) k))
  where
    back : (b +ℤ k) ≤ℤ (a +ℤ k) → b ≤ℤ a
    back h = subst (λ (x : ℤ). x ≤ℤ a) (+ℤ-neg_ℤ_cancel b k) (subst (λ (y : ℤ). (b +ℤ k -ℤ k) ≤ℤ y) (+ℤ-neg_ℤ_cancel a k) (≤ℤ_add h (neg_ℤ k)))

    go : (s t : Bool) → (s ≡ false → t ≡ false) → (t ≡ false → s ≡ false) → s ≡ t
    go true true f g = refl
    go true false f g = g refl
    go false true f g = sym (f refl)
    go false false f g = refl
