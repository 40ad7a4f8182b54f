-- What document 01 says of the rounded quotient, and how code brings a sum back. Assumes nothing.
use mathlib.Core.Path.{◌≡◌, refl, sym, ◌∙◌, ap}
use mathlib.Core.List.{[], ◌∷◌}
use Prim.Native.Nat.{ℕ}
use native.Mathlib.Nat.{le_trans}
use lib.Dec.{T, leb, leb→le, lit<}
use lib.IntN.{ℤ, pos, neg_ℤ, ◌+ℤ◌, ◌-ℤ◌, ◌*ℤ◌}
use Rattle.integers.specs.Numbers.{whole_divided, rounded, clamp}
use Rattle.integers.proofs.Bounds.{Bound}
use Rattle.integers.proofs.Clamping.{clamp_moved}
use Rattle.integers.proofs.Linear.{linear, x₀, x₁, x₂, number, ◌⊕◌, ◌⊖◌, ◌⊛◌}
use Rattle.integers.proofs.Shifts.{whole_divided_more}
use Rattle.filters.specs.Bank.{rescaled, brought_back, Ends}

-- 512 gives 1, −512 gives 0, −513 gives −1 before clipping, and 0 after it
pub rounded_examples : (top : ℕ) → (rounded 1024 (pos 512) ≡ pos 1) × (rounded 1024 (neg_ℤ (pos 512)) ≡ pos 0) × (rounded 1024 (neg_ℤ (pos 513)) ≡ neg_ℤ (pos 1)) × (brought_back top (neg_ℤ (pos 513)) ≡ 0)
unfolding rounded whole_divided brought_back clamp
rounded_examples top = (refl, refl, refl, refl)

-- ends of a clip that are known to be small enough: `ends (search bounds depth 4) (search bounds depth 4) tt tt`
pub ends : {least most : ℤ} (a : Bound least) (b : Bound most) → T (leb a.most 131070) → T (leb b.most 131070) → Ends least most
ends a b s t = record { from = le_trans a.holds (leb→le a.most 131070 s); to = le_trans b.holds (leb→le b.most 131070 t) }

-- 1,024 times x less a sum: the quotient less `least`, clipped from 0 on, and `least` more
pub rescaled_from_least : (least most x sum : ℤ)
    → clamp (pos 0) (most -ℤ least) (x +ℤ whole_divided (pos 512 -ℤ pos 1024 *ℤ least -ℤ sum) 1024) +ℤ least ≡ rescaled 1024 least most (pos 1024 *ℤ x -ℤ sum)
unfolding rounded
rescaled_from_least least most x sum = sym (clamp_moved (pos 0) (most -ℤ least) (x +ℤ quotient) least) ∙ (λ i. clamp (from i) (to i) (whole i))
  where
    quotient : ℤ
    quotient = whole_divided (pos 512 -ℤ pos 1024 *ℤ least -ℤ sum) 1024

    from : pos 0 +ℤ least ≡ least
    from = linear (least ∷ []) (number (pos 0) ⊕ x₀) x₀ tt

    to : most -ℤ least +ℤ least ≡ most
    to = linear (most ∷ least ∷ []) (x₀ ⊖ x₁ ⊕ x₁) x₀ tt

    whole : x +ℤ quotient +ℤ least ≡ whole_divided (pos 1024 *ℤ x -ℤ sum +ℤ pos 512) 1024
    whole =
        linear (x ∷ quotient ∷ least ∷ []) (x₀ ⊕ x₁ ⊕ x₂) (x₁ ⊕ (x₀ ⊕ x₂)) tt
        ∙ sym (whole_divided_more 1024 (pos 512 -ℤ pos 1024 *ℤ least -ℤ sum) (x +ℤ least) (lit< tt))
        ∙ ap (λ (z : ℤ). whole_divided z 1024) (linear (x ∷ least ∷ sum ∷ []) (number (pos 512) ⊖ (pos 1024 ⊛ x₁) ⊖ x₂ ⊕ (pos 1024 ⊛ (x₀ ⊕ x₁))) ((pos 1024 ⊛ x₀) ⊖ x₂ ⊕ number (pos 512)) tt)
