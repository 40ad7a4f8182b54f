-- The laws of two levels: the joined sum is 1,048,576 times the plane less what the details lose at both levels, at every size and for any
-- two limits; how large that grows; and the projection commutes with every turn. Assumes nothing.
use mathlib.Core.Path.{◌≡◌, refl, sym, ◌∙◌, ap}
use Prim.Native.Nat.{ℕ, ◌+◌, ◌*◌, ◌≤◌, ◌<◌}
use native.Mathlib.Omega.{arith}
use native.Mathlib.Nat.{le_trans}
use lib.Dec.{T}
use lib.IntN.{ℤ, pos, nat_abs, ◌+ℤ◌, ◌-ℤ◌, ◌*ℤ◌, +ℤ_idl, +ℤ_idr}
use lib.Signed.{non_neg}
use Rattle.integers.proofs.Products.{*ℤ_assoc, *ℤ_sub}
use Rattle.integers.proofs.Bounds.{abs_add, abs_mul}
use Rattle.planes.specs.Planes.{Agree}
use Rattle.turns.specs.Operations.{Operation}
use Rattle.turns.specs.Pictures.{Picture, turned, ◌≈◌}
use Rattle.turns.proofs.Commuting.{Commutes, same, composed, paired, pointwise, of_both, apply, apply_turned}
use Rattle.filters.specs.Bank.{weighted, tap, along, along_rows, along_columns, filtered, Bands, split, join, low_join, high_join}
use Rattle.filters.proofs.Linearity.{add_bands, times_bands, join_add, join_times}
use Rattle.filters.proofs.Ranges.{gain, Within, filtered_range, split_range, join_range}
use Rattle.filters.proofs.Reconstruction.{reconstruct}
use Rattle.filters.proofs.Turned.{exchange_bands, split_commutes, join_commutes}
use Rattle.projection.specs.Projection.{held, hold_details, held_sum, low_band, over_level, Limits, two_level_sum, two_level_projected}
use Rattle.projection.specs.Fast.{excess, excess_details, difference, lost_sum, two_level_lost}
use Rattle.projection.proofs.Projection.{held-excess, minus_bands, split-difference, join-difference, held_sum_fast, held-bands_commute, held_sum_commutes, rescaled_commutes}
use Rattle.projection.proofs.Outside.{excess_bound}

-- ---- what is lost
-- the difference of two bands 1 is the difference's band 1
pub low_band-difference : (w h : ℕ) (own guide : ℕ → ℕ → ℤ) → difference (low_band w h own) (low_band w h guide) ≡ low_band w h (difference own guide)
unfolding low_band difference
low_band-difference w h own guide = λ m i j. (sym (split-difference 1 w h own guide i j) m).band1

-- Where the second level's sum is 1,024 times band 1 less what is lost there, the held bands over it are the bands 1,024 times less what
-- they lose.
over_held : (limit lost : ℤ) (guide own : Bands ℤ)
    → over_level (pos 1024 *ℤ own.band1 -ℤ lost) (hold_details limit guide own) ≡ minus_bands (times_bands (pos 1024) own) (over_level lost (excess_details limit (minus_bands own guide)))
unfolding over_level hold_details excess_details
over_held limit lost guide own = λ m. record {
  band1 = pos 1024 *ℤ own.band1 -ℤ lost;
  band2 = detail guide.band2 own.band2 m;
  band3 = detail guide.band3 own.band3 m;
  band4 = detail guide.band4 own.band4 m;
}
  where
    detail : (g x : ℤ) → pos 1024 *ℤ held limit g x ≡ pos 1024 *ℤ x -ℤ pos 1024 *ℤ excess limit (x -ℤ g)
    detail g x = ap (λ z. pos 1024 *ℤ z) (held-excess limit g x) ∙ *ℤ_sub (pos 1024) x (excess limit (x -ℤ g))

-- the joined sum of the held bands is 1,048,576 times the plane, less what is lost
pub two_level_sum_lost : (w h : ℕ) → 0 < w → 0 < h → (limits : Limits) (guide own : ℕ → ℕ → ℤ)
    → Agree w h (two_level_sum limits w h guide own) (λ r c. pos 1048576 *ℤ own r c -ℤ two_level_lost limits w h (difference own guide) r c)
unfolding two_level_sum two_level_lost
two_level_sum_lost w h wide tall limits guide own r c hr hc =
    (join_commutes 1).agrees w h 0 _ _ bands r c hr hc
    ∙ join-difference 1 w h (λ i j. times_bands (pos 1024) (split 1 w h own i j)) (λ i j. over_level (lost i j) (outside i j)) r c
    ∙ ap (λ z. z -ℤ join 1 w h (λ i j. over_level (lost i j) (outside i j)) r c) whole
  where
    lost : ℕ → ℕ → ℤ
    lost = lost_sum limits.second 2 w h (low_band w h (difference own guide))

    outside : ℕ → ℕ → Bands ℤ
    outside i j = excess_details limits.first (split 1 w h (difference own guide) i j)

    second : Agree w h (held_sum limits.second 2 w h (low_band w h guide) (low_band w h own)) (λ i j. pos 1024 *ℤ (split 1 w h own i j).band1 -ℤ lost i j)
    second i j hi hj = unfold low_band in
        held_sum_fast w h wide tall limits.second 2 (low_band w h guide) (low_band w h own) i j hi hj
        ∙ ap (λ (p : ℕ → ℕ → ℤ). pos 1024 *ℤ low_band w h own i j -ℤ lost_sum limits.second 2 w h p i j) (low_band-difference w h own guide)

    bands : Agree w h (λ i j. over_level (held_sum limits.second 2 w h (low_band w h guide) (low_band w h own) i j) (hold_details limits.first (split 1 w h guide i j) (split 1 w h own i j)))
        (λ i j. minus_bands (times_bands (pos 1024) (split 1 w h own i j)) (over_level (lost i j) (outside i j)))
    bands i j hi hj =
        ap (λ z. over_level z (hold_details limits.first (split 1 w h guide i j) (split 1 w h own i j))) (second i j hi hj)
        ∙ over_held limits.first (lost i j) (split 1 w h guide i j) (split 1 w h own i j)
        ∙ (λ m. minus_bands (times_bands (pos 1024) (split 1 w h own i j)) (over_level (lost i j) (excess_details limits.first (sym (split-difference 1 w h own guide i j) m))))

    whole : join 1 w h (λ i j. times_bands (pos 1024) (split 1 w h own i j)) r c ≡ pos 1048576 *ℤ own r c
    whole = join_times 1 w h (pos 1024) (split 1 w h own) r c ∙ ap (λ z. pos 1024 *ℤ z) (reconstruct w h wide tall 1 own r c hr hc) ∙ sym (*ℤ_assoc (pos 1024) (pos 1024) (own r c))

-- ---- in two parts
-- bands without details, joined
low_alone : (d w h : ℕ) (p : ℕ → ℕ → ℤ) (r c : ℕ) → join d w h (λ i j. record { band1 = p i j; band2 = pos 0; band3 = pos 0; band4 = pos 0 }) r c ≡ filtered low_join low_join d w h p r c
unfolding join filtered along_rows along_columns along tap weighted low_join high_join
low_alone d w h p r c = +ℤ_idr _ ∙ +ℤ_idr _ ∙ +ℤ_idr _

-- what the second level loses, through the low join filters, and 1,024 times what one level loses
pub two_level_lost_parts : (limits : Limits) (w h : ℕ) (p : ℕ → ℕ → ℤ) (r c : ℕ)
    → two_level_lost limits w h p r c ≡ filtered low_join low_join 1 w h (lost_sum limits.second 2 w h (low_band w h p)) r c +ℤ pos 1024 *ℤ lost_sum limits.first 1 w h p r c
unfolding two_level_lost
two_level_lost_parts limits w h p r c =
    (λ m. join 1 w h (λ i j. bands i j m) r c) ∙ join_add 1 w h alone (λ i j. times_bands (pos 1024) (outside i j)) r c
    ∙ (λ m. low_alone 1 w h lost r c m +ℤ join_times 1 w h (pos 1024) outside r c m)
  where
    lost : ℕ → ℕ → ℤ
    lost = lost_sum limits.second 2 w h (low_band w h p)

    outside : ℕ → ℕ → Bands ℤ
    outside i j = excess_details limits.first (split 1 w h p i j)

    alone : ℕ → ℕ → Bands ℤ
    alone i j = record { band1 = lost i j; band2 = pos 0; band3 = pos 0; band4 = pos 0 }

    bands : (i j : ℕ) → over_level (lost i j) (outside i j) ≡ add_bands (alone i j) (times_bands (pos 1024) (outside i j))
    bands i j = unfold over_level excess_details in (λ m. record {
      band1 = sym (+ℤ_idr (lost i j)) m;
      band2 = sym (+ℤ_idl (pos 1024 *ℤ (outside i j).band2)) m;
      band3 = sym (+ℤ_idl (pos 1024 *ℤ (outside i j).band3)) m;
      band4 = sym (+ℤ_idl (pos 1024 *ℤ (outside i j).band4)) m;
    })

-- ---- how large it grows, where the plane is within m of its guide
module _ (w h : ℕ) (wide : 0 < w) (high : 0 < h) (m : ℕ) (p : ℕ → ℕ → ℤ) (b : Within m w h p) where
  -- one level, at any spacing: 144 · 3 · 16 is 6,912
  pub lost_range : (limit : ℤ) → T (non_neg limit) → (d : ℕ) → Within (6912 * m) w h (lost_sum limit d w h p)
  unfolding excess_details
  lost_range limit sign d r c hr hc =
      let bands = split_range d w h m wide high p b in
      le_trans
      (join_range d w h wide high {m₁ = 0} (λ i j. excess_details limit (split d w h p i j)) (λ i j hi hj. omega arith)
      (λ i j hi hj. outside _ (bands i j hi hj).1) (λ i j hi hj. outside _ (bands i j hi hj).2) (λ i j hi hj. outside _ (bands i j hi hj).3) r c hr hc)
      (omega arith)
    where
      outside : (z : ℤ) → nat_abs z ≤ 16 * m → nat_abs (excess limit z) ≤ 16 * m
      outside z l = le_trans (excess_bound limit z sign) l

  pub low_band_range : Within (16 * m) w h (low_band w h p)
  unfolding low_band
  low_band_range r c hr hc = (split_range 1 w h m wide high p b r c hr hc).0

-- the second level, where m is 16 times as large; and both
module _ (w h : ℕ) (wide : 0 < w) (high : 0 < h) (m : ℕ) (p : ℕ → ℕ → ℤ) (b : Within m w h p) where
  pub second_lost_range : (second_limit : ℤ) → T (non_neg second_limit) → Within (110592 * m) w h (lost_sum second_limit 2 w h (low_band w h p))
  second_lost_range second_limit sign r c hr hc =
      le_trans (lost_range w h wide high (16 * m) (low_band w h p) (low_band_range w h wide high m p b) second_limit sign 2 r c hr hc) (omega arith)

  pub two_level_lost_range : (limits : Limits) → T (non_neg limits.first) → T (non_neg limits.second) → Within (23003136 * m) w h (two_level_lost limits w h p)
  unfolding gain low_join
  two_level_lost_range limits sign second_sign r c hr hc =
      sums _ _ _ _ (ap nat_abs (two_level_lost_parts limits w h p r c)) (abs_add A (pos 1024 *ℤ B)) (abs_mul (pos 1024) B)
      (filtered_range 1 w h (110592 * m) wide high low_join low_join _ (second_lost_range limits.second second_sign) r c hr hc)
      (lost_range w h wide high m p b limits.first sign 1 r c hr hc)
    where
      A : ℤ
      A = filtered low_join low_join 1 w h (lost_sum limits.second 2 w h (low_band w h p)) r c

      B : ℤ
      B = lost_sum limits.first 1 w h p r c

      sums : (s t a k : ℕ) {x : ℕ} → x ≡ s → s ≤ a + t → t ≡ 1024 * k → a ≤ 12 * (12 * (110592 * m)) → k ≤ 6912 * m → x ≤ 23003136 * m
      sums s t a k e h₁ h₂ h₃ h₄ = omega arith

-- ---- turns: the laws over the spacing, at 1 and at 2; a place has its guide's value, and its own
-- band 1 stays band 1 at an exchange
low_band_commutes : Commutes same same (λ w h l p. low_band w h p)
unfolding low_band exchange_bands
low_band_commutes = composed (split_commutes 1) (pointwise exchange_bands same (λ b. b.band1) (λ b. refl))

-- the second level's sum and the first level's held bands side by side, the one put under the other, and joined
pub two_level_sum_commutes : (limits : Limits) → Commutes {A = ℤ × ℤ} {B = ℤ} same same (λ w h l p. two_level_sum limits w h (λ i j. (p i j).0) (λ i j. (p i j).1))
unfolding two_level_sum
two_level_sum_commutes limits =
    composed
    (composed (paired (composed (of_both low_band_commutes) (held_sum_commutes limits.second _)) (held-bands_commute limits.first _))
    (pointwise (λ (x : ℤ × Bands ℤ). (x.0, exchange_bands x.1)) exchange_bands (λ x. over_level x.0 x.1) (λ x. unfold over_level exchange_bands in refl)))
    (join_commutes _)

abbrev pub two_level_operation : Limits → ℤ → ℤ → Operation (ℤ × ℤ) ℤ
two_level_operation limits least most w h l p = two_level_projected limits least most w h (λ i j. (p i j).0) (λ i j. (p i j).1)

module _ (limits : Limits) (least most : ℤ) where
  pub two_level_projected_commutes : Commutes same same (two_level_operation limits least most)
  unfolding two_level_projected
  two_level_projected_commutes = composed (two_level_sum_commutes limits) (rescaled_commutes _ least most)

  -- every turn: the projection of a turned picture is the projection turned
  pub two_level-turned : (t : ℕ) (p : Picture (ℤ × ℤ)) → apply (two_level_operation limits least most) (turned t p) ≈ turned t (apply (two_level_operation limits least most) p)
  two_level-turned = apply_turned two_level_projected_commutes

  -- guides and planes that agree inside have projections that agree inside
  pub two_level_projected_agrees : (w h : ℕ) (guide guide' own own' : ℕ → ℕ → ℤ) → Agree w h guide guide' → Agree w h own own'
      → Agree w h (two_level_projected limits least most w h guide own) (two_level_projected limits least most w h guide' own')
  two_level_projected_agrees w h guide guide' own own' e f =
      two_level_projected_commutes.agrees w h 0 (λ i j. (guide i j, own i j)) (λ i j. (guide' i j, own' i j)) (λ r c hr hc. λ m. (e r c hr hc m, f r c hr hc m))
