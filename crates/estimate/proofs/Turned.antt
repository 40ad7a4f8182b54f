-- The first estimates commute with every turn, and do not see the level. Assumes nothing.
use mathlib.Core.Path.{◌≡◌, refl, sym, ◌∙◌, ap}
use mathlib.Core.Bool.{Bool, true, false, not, cond}
use mathlib.Core.List.{[], ◌∷◌}
use Prim.Native.Nat.{ℕ, ◌+◌, ◌%◌, ◌<◌}
use native.Mathlib.Omega.{arith}
use lib.Dec.{T, ltb, eqb, ltb→lt}
use lib.IntN.{ℤ, pos, negsuc, neg_ℤ, nat_abs, ◌+ℤ◌, ◌-ℤ◌, ◌*ℤ◌, +ℤ_comm}
use Rattle.integers.specs.Numbers.{rounded, clamp}
use Rattle.integers.proofs.Linear.{linear, atom, x₀, x₁, x₂, x₃, neg, ◌⊕◌, ◌⊖◌, ◌⊛◌}
use Rattle.integers.proofs.Bounds.{abs_neg}
use Rattle.border.specs.Border.{reflect}
use Rattle.planes.specs.Layout.{on_red_row, on_red_column, by_parity}
use Rattle.planes.proofs.Layouts.{row_less, column_less}
use Rattle.turns.specs.Operations.{Around, nearby}
use Rattle.turns.specs.Pictures.{Picture, turned, ◌≈◌}
use Rattle.turns.proofs.Commuting.{Commutes, same, nearby_commutes, apply, apply_turned}
use Rattle.neighbourhood.specs.Place.{row_of, column_of, greens, two_away, gradient, along_line, along_both, eight_greens, hamilton_adams, green_at, of_two, of_four, bilinear}
use Rattle.estimate.specs.Estimates.{estimate_at, estimate}

-- ---- green, rows and columns exchanged
both_exchange : (row column : ℤ → ℤ) → row (pos 0) ≡ column (pos 0) → along_both column row ≡ along_both row column
unfolding along_both
both_exchange row column e =
    linear (greens row ∷ greens column ∷ column (pos 0) ∷ two_away row ∷ two_away column ∷ []) (pos 2 ⊛ (x₁ ⊕ x₀) ⊕ pos 4 ⊛ x₂ ⊖ (atom 4 ⊕ x₃)) (pos 2 ⊛ (x₀ ⊕ x₁) ⊕ pos 4 ⊛ x₂ ⊖ (x₃ ⊕ atom 4)) tt
    ∙ ap (λ z. pos 2 *ℤ (greens row +ℤ greens column) +ℤ pos 4 *ℤ z -ℤ (two_away row +ℤ two_away column)) (sym e)

eight_exchange : (row column : ℤ → ℤ) → row (pos 0) ≡ column (pos 0) → eight_greens column row ≡ eight_greens row column
unfolding eight_greens
eight_exchange row column e =
    go (ltb (gradient row) (gradient column)) (ltb (gradient column) (gradient row))
    (λ s t. let p : gradient row < gradient column = ltb→lt (gradient row) (gradient column) s in let q : gradient column < gradient row = ltb→lt (gradient column) (gradient row) t in omega arith)
  where
    -- H < V and V < H do not both hold
    go : (a b : Bool) → (T a → T b → ⊥) → cond b (along_line column) (cond a (along_line row) (along_both column row)) ≡ cond a (along_line row) (cond b (along_line column) (along_both row column))
    go true true f = absurd (f tt tt)
    go true false f = refl
    go false true f = refl
    go false false f = both_exchange row column e

-- ---- and a line mirrored
module _ (line : ℤ → ℤ) where
  abbrev mirrored : ℤ → ℤ
  mirrored j = line (neg_ℤ j)

  greens_mirror : greens mirrored ≡ greens line
  unfolding greens
  greens_mirror = +ℤ_comm (line (pos 1)) (line (negsuc 0))

  two_away_mirror : two_away mirrored ≡ two_away line
  unfolding two_away
  two_away_mirror = +ℤ_comm (line (pos 2)) (line (negsuc 1))

  gradient_mirror : gradient mirrored ≡ gradient line
  unfolding gradient
  gradient_mirror = λ i. apart i + nat_abs (pos 2 *ℤ line (pos 0) -ℤ two_away_mirror i)
    where
      apart : nat_abs (line (pos 1) -ℤ line (negsuc 0)) ≡ nat_abs (line (negsuc 0) -ℤ line (pos 1))
      apart = sym (abs_neg (line (pos 1) -ℤ line (negsuc 0))) ∙ ap nat_abs (linear (line (pos 1) ∷ line (negsuc 0) ∷ []) (neg (x₀ ⊖ x₁)) (x₁ ⊖ x₀) tt)

  eight_mirror : (column : ℤ → ℤ) → eight_greens mirrored column ≡ eight_greens line column
  unfolding eight_greens along_line along_both
  eight_mirror column = λ i.
      cond (ltb (gradient_mirror i) (gradient column)) (pos 4 *ℤ greens_mirror i +ℤ pos 2 *ℤ (pos 2 *ℤ line (pos 0) -ℤ two_away_mirror i))
      (cond (ltb (gradient column) (gradient_mirror i)) (pos 4 *ℤ greens column +ℤ pos 2 *ℤ (pos 2 *ℤ column (pos 0) -ℤ two_away column))
      (pos 2 *ℤ (greens_mirror i +ℤ greens column) +ℤ pos 4 *ℤ line (pos 0) -ℤ (two_away_mirror i +ℤ two_away column)))

module _ (top : ℕ) (n : Around ℕ) where
  adams_exchange : hamilton_adams top (λ i j. n j i) ≡ hamilton_adams top n
  unfolding hamilton_adams
  adams_exchange = ap (λ z. nat_abs (clamp (pos 0) (pos top) (rounded 8 z))) (eight_exchange (row_of n) (column_of n) refl)

  adams_mirror : hamilton_adams top (λ i j. n i (neg_ℤ j)) ≡ hamilton_adams top n
  unfolding hamilton_adams
  adams_mirror = ap (λ z. nat_abs (clamp (pos 0) (pos top) (rounded 8 z))) (eight_mirror (row_of n) (column_of n))

  green_exchange : (a b : Bool) → green_at top (by_parity b a) (λ i j. n j i) ≡ green_at top (by_parity a b) n
  unfolding green_at by_parity
  green_exchange true true = adams_exchange
  green_exchange true false = refl
  green_exchange false true = refl
  green_exchange false false = adams_exchange

  green_mirror : (a b : Bool) → green_at top (by_parity a b) (λ i j. n i (neg_ℤ j)) ≡ green_at top (by_parity a b) n
  unfolding green_at by_parity
  green_mirror true true = adams_mirror
  green_mirror true false = refl
  green_mirror false true = refl
  green_mirror false false = adams_mirror

-- ---- red and blue: the order of the neighbours does not matter
two_by : (a b c d : ℕ) → a + b ≡ c + d → of_two a b ≡ of_two c d
unfolding of_two
two_by a b c d e = ap (λ (k : ℕ). nat_abs (rounded 2 (pos k))) e

four_by : (a b c d e f g h : ℕ) → a + b + c + d ≡ e + f + g + h → of_four a b c d ≡ of_four e f g h
unfolding of_four
four_by a b c d e f g h p = ap (λ (k : ℕ). nat_abs (rounded 4 (pos k))) p

bilinear_exchange : (a b : Bool) (n : Around ℕ) → bilinear b a (λ i j. n j i) ≡ bilinear a b n
unfolding bilinear
bilinear_exchange true true n = refl
bilinear_exchange true false n = refl
bilinear_exchange false true n = refl
bilinear_exchange false false n = four_by _ _ _ _ _ _ _ _ (omega arith)

bilinear_mirror : (a b : Bool) (n : Around ℕ) → bilinear a b (λ i j. n i (neg_ℤ j)) ≡ bilinear a b n
unfolding bilinear
bilinear_mirror true true n = refl
bilinear_mirror true false n = two_by _ _ _ _ (omega arith)
bilinear_mirror false true n = refl
bilinear_mirror false false n = four_by _ _ _ _ _ _ _ _ (omega arith)

-- ---- the three planes
pub estimate_commutes : (top : ℕ) → Commutes same same (estimate top)
unfolding estimate estimate_at
estimate_commutes top =
    nearby_commutes same same (estimate_at top)
    (λ a b n. λ i. record { red = bilinear_exchange a b n i; green = green_exchange top n a b i; blue = bilinear_exchange (not a) (not b) n i })
    (λ a b n. λ i. record { red = bilinear_mirror a b n i; green = green_mirror top n a b i; blue = bilinear_mirror (not a) (not b) n i })

-- the estimates of a turned mosaic are the turned estimates
pub estimate-turned : (top t : ℕ) (p : Picture ℕ) → apply (estimate top) (turned t p) ≈ turned t (apply (estimate top) p)
estimate-turned top t p = apply_turned (estimate_commutes top) t p

-- the estimates with two levels are those with one
pub estimate_less : (top w h l : ℕ) (p : ℕ → ℕ → ℕ) → estimate top w h (4 + l) p ≡ estimate top w h l p
unfolding estimate nearby on_red_row on_red_column
estimate_less top w h l p = λ m r c. estimate_at top (eqb (r % 2) (row_less l m)) (eqb (c % 2) (column_less l m)) (λ i j. p (reflect h (pos r +ℤ i)) (reflect w (pos c +ℤ j)))
