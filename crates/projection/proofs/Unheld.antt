-- Exactness: where nothing is held, one level's sum is 1,024 times the plane and two levels' 1,048,576 times, so that the projection gives the
-- plane back. Nothing is held where the difference's details are within the limits; so where the plane is within T of its guide.
-- Assumes nothing.
use mathlib.Core.Path.{◌≡◌, refl, sym, ◌∙◌, ap, subst}
use mathlib.Core.List.{[], ◌∷◌}
use Prim.Native.Nat.{ℕ, ◌*◌, ◌≤◌, ◌<◌}
use native.Mathlib.Omega.{arith}
use lib.IntN.{ℤ, pos, nat_abs, ◌-ℤ◌, ◌*ℤ◌, +ℤ_idr}
use lib.Signed.{◌≤ℤ◌}
use Rattle.integers.proofs.Products.{*ℤ_assoc}
use Rattle.integers.proofs.Order.{abs_from, abs_to}
use Rattle.integers.proofs.Clamping.{clamp_inside}
use Rattle.integers.proofs.Rounding.{rounded_exact}
use Rattle.integers.proofs.Linear.{linear, x₀, number, ◌⊖◌}
use Rattle.integers.specs.Numbers.{clamp}
use Rattle.planes.specs.Planes.{Agree}
use Rattle.filters.specs.Bank.{Bands, split, rescaled}
use Rattle.filters.proofs.Linearity.{times_bands, join_times}
use Rattle.filters.proofs.Ranges.{Within, split_range}
use Rattle.filters.proofs.Reconstruction.{reconstruct}
use Rattle.filters.proofs.Turned.{join_commutes}
use Rattle.projection.specs.Projection.{hold_details, held_sum, projected, low_band, over_level, Limits, limits_of, two_level_sum, two_level_projected}
use Rattle.projection.specs.Fast.{excess, excess_details, difference}
use Rattle.projection.proofs.Projection.{minus_bands, hold_excess, split-difference}
use Rattle.projection.proofs.Levels.{low_band-difference, low_band_range}

-- at every place the details are within the limit of the guide's
abbrev pub Unheld : ℤ → ℕ → ℕ → ℕ → (ℕ → ℕ → ℤ) → (ℕ → ℕ → ℤ) → Type 0
Unheld limit d w h guide own = Agree w h (λ i j. hold_details limit (split d w h guide i j) (split d w h own i j)) (split d w h own)

-- a sum that is d times a value from least to most gives it back
back_whole : {d : ℕ} {least most s x : ℤ} → 0 < d → s ≡ pos d *ℤ x → least ≤ℤ x → x ≤ℤ most → rescaled d least most s ≡ x
back_whole {d} {least} {most} {s} {x} some e from to = ap (rescaled d least most) e ∙ ap (clamp least most) (rounded_exact d x some) ∙ clamp_inside from to

-- ---- one level, at any spacing
module _ (w h : ℕ) (wide : 0 < w) (high : 0 < h) (guide own : ℕ → ℕ → ℤ) where
  pub unheld_sum : (limit : ℤ) (d : ℕ) → Unheld limit d w h guide own → Agree w h (held_sum limit d w h guide own) (λ r c. pos 1024 *ℤ own r c)
  unfolding held_sum
  unheld_sum limit d u r c hr hc = (join_commutes d).agrees w h 0 _ _ u r c hr hc ∙ reconstruct w h wide high d own r c hr hc

  pub unheld_projected : (limit least most : ℤ) → Unheld limit 1 w h guide own
      → (r c : ℕ) → r < h → c < w → least ≤ℤ own r c → own r c ≤ℤ most → projected limit least most w h guide own r c ≡ own r c
  unfolding projected
  unheld_projected limit least most u r c hr hc = back_whole (omega arith) (unheld_sum limit 1 u r c hr hc)

-- ---- two levels
module _ (w h : ℕ) (wide : 0 < w) (high : 0 < h) (guide own : ℕ → ℕ → ℤ) (limits : Limits) (second : Unheld limits.second 2 w h (low_band w h guide) (low_band w h own)) where
  -- where the second has nothing to hold, the sum is one level's, 1,024 times
  pub second_unheld_sum : Agree w h (two_level_sum limits w h guide own) (λ r c. pos 1024 *ℤ held_sum limits.first 1 w h guide own r c)
  unfolding two_level_sum held_sum
  second_unheld_sum r c hr hc = (join_commutes 1).agrees w h 0 _ _ bands r c hr hc ∙ join_times 1 w h (pos 1024) (λ i j. hold_details limits.first (split 1 w h guide i j) (split 1 w h own i j)) r c
    where
      bands : Agree w h (λ i j. over_level (held_sum limits.second 2 w h (low_band w h guide) (low_band w h own) i j) (hold_details limits.first (split 1 w h guide i j) (split 1 w h own i j)))
          (λ i j. times_bands (pos 1024) (hold_details limits.first (split 1 w h guide i j) (split 1 w h own i j)))
      bands i j hi hj =
          ap (λ z. over_level z (hold_details limits.first (split 1 w h guide i j) (split 1 w h own i j))) (unheld_sum w h wide high (low_band w h guide) (low_band w h own) limits.second 2 second i j hi hj)
          ∙ (unfold over_level low_band hold_details in refl)

  -- and where the first has nothing either, the plane, 1,048,576 times
  pub unheld_two_sum : Unheld limits.first 1 w h guide own → Agree w h (two_level_sum limits w h guide own) (λ r c. pos 1048576 *ℤ own r c)
  unheld_two_sum u r c hr hc =
      second_unheld_sum r c hr hc ∙ ap (λ z. pos 1024 *ℤ z) (unheld_sum w h wide high guide own limits.first 1 u r c hr hc) ∙ sym (*ℤ_assoc (pos 1024) (pos 1024) (own r c))

  pub unheld_two_projected : Unheld limits.first 1 w h guide own → (least most : ℤ)
      → (r c : ℕ) → r < h → c < w → least ≤ℤ own r c → own r c ≤ℤ most → two_level_projected limits least most w h guide own r c ≡ own r c
  unfolding two_level_projected
  unheld_two_projected u least most r c hr hc = back_whole (omega arith) (unheld_two_sum u r c hr hc)

-- ---- where nothing is held
-- what is within the limit has nothing outside
excess_inside : (n : ℕ) (z : ℤ) → nat_abs z ≤ n → excess (pos n) z ≡ pos 0
unfolding excess
excess_inside n z b = ap (λ x. z -ℤ x) (clamp_inside (abs_from n z b) (abs_to n z b)) ∙ linear (z ∷ []) (x₀ ⊖ x₀) (number (pos 0)) tt

-- nothing in any band
abbrev pub no_bands : Bands ℤ
no_bands = record { band1 = pos 0; band2 = pos 0; band3 = pos 0; band4 = pos 0 }

details_inside : (n : ℕ) (b : Bands ℤ) → nat_abs b.band2 ≤ n → nat_abs b.band3 ≤ n → nat_abs b.band4 ≤ n → excess_details (pos n) b ≡ no_bands
unfolding excess_details
details_inside n b b₂ b₃ b₄ = λ m. record { band1 = pos 0; band2 = excess_inside n b.band2 b₂ m; band3 = excess_inside n b.band3 b₃ m; band4 = excess_inside n b.band4 b₄ m }

-- as code sees it: the difference's details have nothing outside the limit
pub unheld_excess : (w h : ℕ) (guide own : ℕ → ℕ → ℤ) (limit : ℤ) (d : ℕ)
    → ((r c : ℕ) → r < h → c < w → excess_details limit (split d w h (difference own guide) r c) ≡ no_bands)
    → Unheld limit d w h guide own
unheld_excess w h guide own limit d none r c hr hc =
    hold_excess limit (split d w h guide r c) (split d w h own r c)
    ∙ ap (minus_bands bands) (ap (excess_details limit) (sym (split-difference d w h own guide r c)) ∙ none r c hr hc)
    ∙ (λ m. record { band1 = +ℤ_idr bands.band1 m; band2 = +ℤ_idr bands.band2 m; band3 = +ℤ_idr bands.band3 m; band4 = +ℤ_idr bands.band4 m })
  where
    bands : Bands ℤ
    bands = split d w h own r c

-- a plane within m of its guide has details within 16·m of the guide's
pub unheld_near : (w h : ℕ) → 0 < w → 0 < h → (guide own : ℕ → ℕ → ℤ) (m d : ℕ) → Within m w h (difference own guide) → Unheld (pos (16 * m)) d w h guide own
unheld_near w h wide high guide own m d b =
    unheld_excess w h guide own (pos (16 * m)) d
    (λ r c hr hc. let s = split_range d w h m wide high (difference own guide) b r c hr hc in details_inside (16 * m) (split d w h (difference own guide) r c) s.1 s.2 s.3)

-- so a plane within T of its guide comes back: 256·T is 16 times 16·T
pub near_two_projected : (w h : ℕ) → 0 < w → 0 < h → (guide own : ℕ → ℕ → ℤ) (threshold : ℕ) → Within threshold w h (difference own guide) → (least most : ℤ)
    → (r c : ℕ) → r < h → c < w → least ≤ℤ own r c → own r c ≤ℤ most → two_level_projected (limits_of threshold) least most w h guide own r c ≡ own r c
unfolding limits_of
near_two_projected w h wide high guide own threshold b =
    unheld_two_projected w h wide high guide own (limits_of threshold)
    (subst (λ (n : ℕ). Unheld (pos n) 2 w h (low_band w h guide) (low_band w h own)) twice
    (unheld_near w h wide high (low_band w h guide) (low_band w h own) (16 * threshold) 2
    (subst (Within (16 * threshold) w h) (sym (low_band-difference w h own guide)) (low_band_range w h wide high threshold (difference own guide) b))))
    (unheld_near w h wide high guide own threshold 1 b)
  where
    twice : 16 * (16 * threshold) ≡ 256 * threshold
    twice = omega arith
