-- Eight times the green: how large it is, and by the tests of H and V that code makes. Assumes nothing.
use mathlib.Core.Path.{◌≡◌, sym, ◌∙◌, ap}
use mathlib.Core.Bool.{Bool, true, false, cond}
use mathlib.Core.List.{[], ◌∷◌}
use Prim.Native.Nat.{◌≤◌, ◌<◌}
use native.Mathlib.Omega.{arith}
use lib.Dec.{T, ltb, ltb→lt}
use lib.IntN.{ℤ, pos, negsuc, nat_abs, ◌+ℤ◌, ◌-ℤ◌, ◌*ℤ◌}
use lib.Signed.{lt_z}
use Rattle.integers.proofs.Bounds.{bounds, abs_sub}
use Rattle.integers.proofs.Linear.{linear, atom, x₀, x₁, x₂, x₃, ◌⊕◌, ◌⊖◌, ◌⊛◌}
use Rattle.neighbourhood.specs.Place.{greens, two_away, gradient, along_line, along_both, eight_greens}
use Rattle.neighbourhood.specs.Inner.{half_along, SmallResult, most_detail, most_along, most_greens}
use Rattle.neighbourhood.proofs.Arithmetic.{small_by, sum_small, within}

-- ---- how large it is
pub detail_small : (line : ℤ → ℤ) → nat_abs (two_away line) ≤ 131070 → nat_abs (line (pos 0)) ≤ 65535 → nat_abs (pos 2 *ℤ line (pos 0) -ℤ two_away line) ≤ most_detail
detail_small line p q = within (pos 2 *ℤ line (pos 0) -ℤ two_away line) (search bounds depth 14) tt

pub line_small : (line : ℤ → ℤ) → nat_abs (greens line) ≤ 131070 → nat_abs (pos 2 *ℤ line (pos 0) -ℤ two_away line) ≤ most_detail → nat_abs (half_along line) ≤ most_along
unfolding half_along
line_small line p q = within (pos 2 *ℤ greens line +ℤ (pos 2 *ℤ line (pos 0) -ℤ two_away line)) (search bounds depth 14) tt

pub gradient_small : (line : ℤ → ℤ) → nat_abs (line (negsuc 0)) ≤ 65535 → nat_abs (line (pos 1)) ≤ 65535 → nat_abs (pos 2 *ℤ line (pos 0) -ℤ two_away line) ≤ most_detail → gradient line ≤ most_along
unfolding gradient
gradient_small line p q r = omega (arith, abs_sub (line (negsuc 0)) (line (pos 1)))

-- ---- the sum of two that are chosen
module _ (row column : ℤ → ℤ) (e : row (pos 0) ≡ column (pos 0)) where
  twice : (line : ℤ → ℤ) → half_along line +ℤ half_along line ≡ along_line line
  unfolding half_along along_line
  twice line =
      linear (greens line ∷ line (pos 0) ∷ two_away line ∷ []) (pos 2 ⊛ x₀ ⊕ (pos 2 ⊛ x₁ ⊖ x₂) ⊕ (pos 2 ⊛ x₀ ⊕ (pos 2 ⊛ x₁ ⊖ x₂))) (pos 4 ⊛ x₀ ⊕ pos 2 ⊛ (pos 2 ⊛ x₁ ⊖ x₂)) tt

  once_each : half_along column +ℤ half_along row ≡ along_both row column
  unfolding half_along along_both
  once_each =
      ap (λ z. pos 2 *ℤ greens column +ℤ (pos 2 *ℤ z -ℤ two_away column) +ℤ (pos 2 *ℤ greens row +ℤ (pos 2 *ℤ row (pos 0) -ℤ two_away row))) (sym e)
      ∙ linear (greens row ∷ greens column ∷ row (pos 0) ∷ two_away row ∷ two_away column ∷ []) (pos 2 ⊛ x₁ ⊕ (pos 2 ⊛ x₂ ⊖ atom 4) ⊕ (pos 2 ⊛ x₀ ⊕ (pos 2 ⊛ x₂ ⊖ x₃))) (pos 2 ⊛ (x₀ ⊕ x₁) ⊕ pos 4 ⊛ x₂ ⊖ (x₃ ⊕ atom 4)) tt

  eight_chosen : cond (ltb (gradient row) (gradient column)) (half_along row) (half_along column) +ℤ cond (ltb (gradient column) (gradient row)) (half_along column) (half_along row) ≡ eight_greens row column
  unfolding eight_greens
  eight_chosen =
      go (ltb (gradient row) (gradient column)) (ltb (gradient column) (gradient row))
      (λ s t. let p : gradient row < gradient column = ltb→lt (gradient row) (gradient column) s in let q : gradient column < gradient row = ltb→lt (gradient column) (gradient row) t in omega arith)
    where
      -- H < V and V < H do not both hold
      go : (a b : Bool) → (T a → T b → ⊥) → cond a (half_along row) (half_along column) +ℤ cond b (half_along column) (half_along row) ≡ cond a (along_line row) (cond b (along_line column) (along_both row column))
      go true true f = absurd (f tt tt)
      go true false f = twice row
      go false true f = twice column
      go false false f = once_each

  pub eight_is : {h v x y p q r : ℤ} → h ≡ pos (gradient row) → v ≡ pos (gradient column) → x ≡ half_along row → y ≡ half_along column
      → SmallResult most_along p (cond (lt_z h v) x y) → SmallResult most_along q (cond (lt_z v h) y x) → r ≡ p +ℤ q → SmallResult most_greens r (eight_greens row column)
  eight_is a b c d p q f =
      let sum = f ∙ (λ i. p.is i +ℤ q.is i) in
      record {
        is = sum ∙ (λ i. cond (lt_z (a i) (b i)) (c i) (d i) +ℤ cond (lt_z (b i) (a i)) (d i) (c i)) ∙ eight_chosen;
        small = (small_by sum (sum_small p q)).small;
      }
