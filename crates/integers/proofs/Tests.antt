-- Tests that compute: what holds where one passed, and a fact of every number below a bound by one computed test.
-- Assumes nothing.
use mathlib.Core.Path.{◌≡◌, refl, sym, ap, ◌∙◌, subst}
use mathlib.Core.Bool.{Bool, true, false, cond, not, ◌&&◌}
use mathlib.Core.Logic.{◌⊎◌, inl, inr}
use Prim.Native.Nat.{ℕ, zero, suc, ◌<◌}
use native.Mathlib.Nat.{eq-or-lt_of_le, le_of_suc-le-suc}
use native.Mathlib.Omega.{arith}
use lib.Dec.{T, eqb, eqb→eq}

-- ---- Bool's two values
-- a choice's two cases
pub cond_cases {ℓ} : {A : Type ℓ} (b : Bool) (x y : A) (P : A → Type 0) → (T b → P x) → (T (not b) → P y) → P (cond b x y)
cond_cases true x y P f g = f tt
cond_cases false x y P f g = g tt

pub is_true : (b : Bool) → T b → b ≡ true
is_true true t = refl
is_true false t = absurd t

pub true_is : {b : Bool} → b ≡ true → T b
true_is e = subst T (sym e) tt

pub not_is : (b c : Bool) → not b ≡ c → b ≡ not c
not_is true c e = ap not e
not_is false c e = ap not e

-- what a callee answered, tested by `!`
pub tested : {r b : Bool} (v : Bool) → r ≡ b → not r ≡ v → b ≡ not v
tested {r} v e f = sym e ∙ not_is r v f

pub never {ℓ} : {X : Type ℓ} → true ≡ false → X
never e = absurd (let z : ◌≡◌ {A = ℕ} 0 1 = ap (λ (b : Bool). cond b 0 1) e in omega arith)

pub and_left : (a b : Bool) → T (a && b) → T a
and_left true b t = tt
and_left false b t = t

pub and_right : (a b : Bool) → T (a && b) → T b
and_right true b t = t
and_right false b t = absurd t

pub both : (a b : Bool) → T a → T b → T (a && b)
both true b s t = t
both false b s t = s

-- two tests that pass together are equal
pub same_test : (a b : Bool) → (T a → T b) → (T b → T a) → a ≡ b
same_test true b f g = sym (is_true b (f tt))
same_test false true f g = absurd (g tt)
same_test false false f g = refl

-- ---- every number below n
-- f passes at 0, … , n − 1
abbrev pub all_below : ℕ → (ℕ → Bool) → Bool
all_below zero f = true
all_below (suc n) f = f n && all_below n f

pub at_below : (n : ℕ) (f : ℕ → Bool) → T (all_below n f) → (i : ℕ) → i < n → T (f i)
at_below zero f t i h = absurd (omega arith)
at_below (suc n) f t i h = go (eq-or-lt_of_le (le_of_suc-le-suc h)) (λ l. at_below n f (and_right (f n) (all_below n f) t) i l)
  where
    go : (i ≡ n) ⊎ (i < n) → (i < n → T (f i)) → T (f i)
    go (inl e) r = subst (λ (k : ℕ). T (f k)) (sym e) (and_left (f n) (all_below n f) t)
    go (inr l) r = r l

-- two functions of two numbers below m and n are equal there, by one computed test
pub equal_below : (m n : ℕ) (f g : ℕ → ℕ → ℕ) → T (all_below m (λ a. all_below n (λ b. eqb (f a b) (g a b)))) → (a b : ℕ) → a < m → b < n → f a b ≡ g a b
equal_below m n f g t a b ha hb =
    eqb→eq (f a b) (g a b) (at_below n (λ y. eqb (f a y) (g a y)) (at_below m (λ x. all_below n (λ y. eqb (f x y) (g x y))) t a ha) b hb)
