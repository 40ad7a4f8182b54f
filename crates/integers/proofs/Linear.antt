-- Linear equations over ℤ, by computation. `linear ρ l r tt : l ≡ r`, with l and r written as expressions over the list of atoms ρ:
--   linear (a ∷ b ∷ []) (x₀ ⊕ (x₁ ⊖ x₀)) x₁ tt : a +ℤ (b -ℤ a) ≡ b
-- Assumes nothing.
use mathlib.Core.Path.{◌≡◌, refl, sym, ◌∙◌, ap}
use mathlib.Core.Bool.{Bool, true, false, ◌&&◌}
use mathlib.Core.List.{List, [], ◌∷◌}
use Prim.Native.Nat.{ℕ, zero, suc}
use lib.ListN.{get_or}
use lib.Dec.{T, eqb, eqb→eq}
use lib.IntN.{ℤ, pos, negsuc, neg_ℤ, ◌+ℤ◌, ◌*ℤ◌, ◌-ℤ◌, +ℤ_idl, +ℤ_idr, -ℤ-+ℤ_cancel, zero-*ℤ, *ℤ-zero, *ℤ_comm}
use Rattle.integers.proofs.Tests.{and_left, and_right}
use Rattle.integers.proofs.Products.{+ℤ_interchange, +ℤ_*ℤ, *ℤ_+ℤ, *ℤ_assoc, one_*ℤ, minus_one_*ℤ}

infixl 6 ◌⊕◌ ◌⊖◌ ◌⊞◌
infixr 7 ◌⊛◌
-- an atom by its number, a number, a sum, a difference, an opposite, a number's multiple
pub data Linear : Type 0 where
  atom : ℕ → Linear
  number : ℤ → Linear
  ◌⊕◌ ◌⊖◌ : Linear → Linear → Linear
  neg : Linear → Linear
  ◌⊛◌ : ℤ → Linear → Linear

abbrev pub value_of : Linear → List ℤ → ℤ
value_of (atom i) ρ = get_or ρ i (pos 0)
value_of (number c) ρ = c
value_of (a ⊕ b) ρ = value_of a ρ +ℤ value_of b ρ
value_of (a ⊖ b) ρ = value_of a ρ -ℤ value_of b ρ
value_of (neg a) ρ = neg_ℤ (value_of a ρ)
value_of (c ⊛ a) ρ = c *ℤ value_of a ρ

-- ---- the normal form: the constant, and then each atom's coefficient
abbrev ◌⊞◌ : List ℤ → List ℤ → List ℤ
[] ⊞ ys = ys
(x ∷ xs) ⊞ [] = x ∷ xs
(x ∷ xs) ⊞ (y ∷ ys) = (x +ℤ y) ∷ (xs ⊞ ys)

abbrev times : ℤ → List ℤ → List ℤ
times c [] = []
times c (x ∷ xs) = (c *ℤ x) ∷ times c xs

abbrev unit : ℕ → List ℤ
unit zero = pos 1 ∷ []
unit (suc n) = pos 0 ∷ unit n

abbrev normal : Linear → List ℤ
normal (atom i) = pos 0 ∷ unit i
normal (number c) = c ∷ []
normal (a ⊕ b) = normal a ⊞ normal b
normal (a ⊖ b) = normal a ⊞ times (negsuc 0) (normal b)
normal (neg a) = times (negsuc 0) (normal a)
normal (c ⊛ a) = times c (normal a)

-- what a normal form means, at 1 and the atoms
dot : List ℤ → List ℤ → ℤ
dot [] ρ = pos 0
dot (c ∷ cs) [] = pos 0
dot (c ∷ cs) (x ∷ ρ) = c *ℤ x +ℤ dot cs ρ

dot_add : (xs ys ρ : List ℤ) → dot (xs ⊞ ys) ρ ≡ dot xs ρ +ℤ dot ys ρ
unfolding dot
dot_add [] ys ρ = sym (+ℤ_idl (dot ys ρ))
dot_add (x ∷ xs) [] ρ = sym (+ℤ_idr (dot (x ∷ xs) ρ))
dot_add (x ∷ xs) (y ∷ ys) [] = refl
dot_add (x ∷ xs) (y ∷ ys) (z ∷ ρ) = (λ i. +ℤ_*ℤ x y z i +ℤ dot_add xs ys ρ i) ∙ +ℤ_interchange (x *ℤ z) (y *ℤ z) (dot xs ρ) (dot ys ρ)

dot_times : (c : ℤ) (xs ρ : List ℤ) → dot (times c xs) ρ ≡ c *ℤ dot xs ρ
unfolding dot
dot_times c [] ρ = sym (*ℤ-zero c)
dot_times c (x ∷ xs) [] = sym (*ℤ-zero c)
dot_times c (x ∷ xs) (z ∷ ρ) = (λ i. *ℤ_assoc c x z i +ℤ dot_times c xs ρ i) ∙ sym (*ℤ_+ℤ c (x *ℤ z) (dot xs ρ))

dot_minus : (xs ρ : List ℤ) → dot (times (negsuc 0) xs) ρ ≡ neg_ℤ (dot xs ρ)
dot_minus xs ρ = dot_times (negsuc 0) xs ρ ∙ minus_one_*ℤ (dot xs ρ)

dot_unit : (i : ℕ) (ρ : List ℤ) → dot (unit i) ρ ≡ get_or ρ i (pos 0)
unfolding dot
dot_unit zero [] = refl
dot_unit zero (x ∷ ρ) = +ℤ_idr (pos 1 *ℤ x) ∙ one_*ℤ x
dot_unit (suc i) [] = refl
dot_unit (suc i) (x ∷ ρ) = ap (λ p. p +ℤ dot (unit i) ρ) (zero-*ℤ x) ∙ +ℤ_idl (dot (unit i) ρ) ∙ dot_unit i ρ

sound : (e : Linear) (ρ : List ℤ) → value_of e ρ ≡ dot (normal e) (pos 1 ∷ ρ)
unfolding dot
sound (atom i) ρ = sym (dot_unit i ρ) ∙ sym (+ℤ_idl (dot (unit i) ρ))
sound (number c) ρ = sym (+ℤ_idr (c *ℤ pos 1) ∙ *ℤ_comm c (pos 1) ∙ one_*ℤ c)
sound (a ⊕ b) ρ = (λ i. sound a ρ i +ℤ sound b ρ i) ∙ sym (dot_add (normal a) (normal b) (pos 1 ∷ ρ))
sound (a ⊖ b) ρ =
    (λ i. sound a ρ i -ℤ sound b ρ i)
    ∙ ap (λ p. dot (normal a) (pos 1 ∷ ρ) +ℤ p) (sym (dot_minus (normal b) (pos 1 ∷ ρ)))
    ∙ sym (dot_add (normal a) (times (negsuc 0) (normal b)) (pos 1 ∷ ρ))
sound (neg a) ρ = ap neg_ℤ (sound a ρ) ∙ sym (dot_minus (normal a) (pos 1 ∷ ρ))
sound (c ⊛ a) ρ = ap (λ p. c *ℤ p) (sound a ρ) ∙ sym (dot_times c (normal a) (pos 1 ∷ ρ))

-- ---- the test: the difference of the two sides is 0 in every coefficient
abbrev is_zero : ℤ → Bool
is_zero (pos n) = eqb n 0
is_zero (negsuc n) = false

abbrev all_zero : List ℤ → Bool
all_zero [] = true
all_zero (x ∷ xs) = is_zero x && all_zero xs

zero_is : (x : ℤ) → T (is_zero x) → x ≡ pos 0
zero_is (pos n) t = ap pos (eqb→eq n 0 t)
zero_is (negsuc n) t = absurd t

dot_zero : (xs ρ : List ℤ) → T (all_zero xs) → dot xs ρ ≡ pos 0
unfolding dot
dot_zero [] ρ t = refl
dot_zero (x ∷ xs) [] t = refl
dot_zero (x ∷ xs) (z ∷ ρ) t =
    (λ i. (ap (λ p. p *ℤ z) (zero_is x (and_left (is_zero x) (all_zero xs) t)) ∙ zero-*ℤ z) i +ℤ dot_zero xs ρ (and_right (is_zero x) (all_zero xs) t) i)

-- a difference that is 0
pub eq_of_sub : (a b : ℤ) → a -ℤ b ≡ pos 0 → a ≡ b
eq_of_sub a b e = sym (-ℤ-+ℤ_cancel a b) ∙ ap (λ p. p +ℤ b) e ∙ +ℤ_idl b

pub linear : (ρ : List ℤ) (l r : Linear) → T (all_zero (normal (l ⊖ r))) → value_of l ρ ≡ value_of r ρ
linear ρ l r t = eq_of_sub (value_of l ρ) (value_of r ρ) (sound (l ⊖ r) ρ ∙ dot_zero (normal (l ⊖ r)) (pos 1 ∷ ρ) t)

-- ---- the first atoms by short names
abbrev pub x₀ : Linear
x₀ = atom 0

abbrev pub x₁ : Linear
x₁ = atom 1

abbrev pub x₂ : Linear
x₂ = atom 2

abbrev pub x₃ : Linear
x₃ = atom 3
