-- The laws of numbers taken apart by 1,024: the parts and their sizes, and a sum of two levels brought back.
-- Assumes nothing.
use mathlib.Core.Path.{◌≡◌, ◌∙◌, ap}
use mathlib.Core.List.{[], ◌∷◌}
use Prim.Native.Nat.{ℕ, ◌*◌, ◌≤◌}
use native.Mathlib.Nat.{le_trans}
use native.Mathlib.Omega.{arith}
use lib.Dec.{T, leb, leb→le, lit<}
use lib.IntN.{ℤ, pos, negsuc, nat_abs, ◌+ℤ◌, ◌-ℤ◌, ◌*ℤ◌}
use Rattle.integers.specs.Numbers.{whole_divided, clamp}
use Rattle.integers.proofs.Linear.{linear, x₀, x₁, ◌⊕◌, ◌⊖◌, ◌⊛◌}
use Rattle.integers.proofs.Bounds.{Bound}
use Rattle.integers.proofs.Rounding.{Divided, whole_divided_is}
use Rattle.integers.proofs.Shifts.{rounded_by_levels}
use Rattle.nested_floor.specs.NestedFloor.{whole, rest, settled_two}

-- ---- the parts
pub whole_is : (z : ℤ) → Divided 1024 z (whole z)
unfolding whole
whole_is z = whole_divided_is 1024 (lit< tt) z

pub parts_sum : (z : ℤ) → z ≡ pos 1024 *ℤ whole z +ℤ rest z
unfolding rest
parts_sum z = linear (z ∷ whole z ∷ []) x₀ (pos 1024 ⊛ x₁ ⊕ (x₀ ⊖ pos 1024 ⊛ x₁)) tt

pub rest_small : (z : ℤ) → nat_abs (rest z) ≤ 1023
unfolding rest
rest_small z = let q = whole_is z in omega (arith, ap nat_abs (ap (λ (x : ℤ). x -ℤ pos 1024 *ℤ whole z) q.sum ∙ linear (whole z ∷ pos q.rest ∷ []) (pos 1024 ⊛ x₀ ⊕ x₁ ⊖ pos 1024 ⊛ x₀) x₁ tt), q.below)

pub whole_small : (m : ℕ) (z : ℤ) → nat_abs z ≤ 1024 * m → nat_abs (whole z) ≤ m
unfolding whole whole_divided
whole_small m (pos a) h = omega arith
whole_small m (negsuc a) h = omega arith

-- by what is found of z: `whole_bound (search bounds depth 14) m tt`
pub whole_bound : {z : ℤ} (b : Bound z) (m : ℕ) → T (leb b.most (1024 * m)) → nat_abs (whole z) ≤ m
whole_bound {z} b m t = whole_small m z (le_trans b.holds (leb→le b.most (1024 * m) t))

-- ---- a sum of two levels brought back in 32 bits
pub settled_by : (least most x sum small : ℤ)
    → clamp least most (whole_divided (pos 1024 *ℤ x -ℤ sum +ℤ whole_divided (pos 0 -ℤ small) 1024 +ℤ pos 512) 1024) ≡ settled_two least most x sum small
unfolding settled_two
settled_by least most x sum small = ap (clamp least most) (rounded_by_levels 1024 512 (pos 1024 *ℤ x -ℤ sum) small (lit< tt) (lit< tt))
