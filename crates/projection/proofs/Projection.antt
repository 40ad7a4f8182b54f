-- The laws of the projection: its joined sum is 1,024 times the plane less what the details lose, at every size, spacing and limit;
-- and it commutes with every turn. Assumes nothing.
use mathlib.Core.Path.{◌≡◌, refl, sym, ◌∙◌, ap}
use mathlib.Core.List.{[], ◌∷◌}
use Prim.Native.Nat.{ℕ, ◌<◌}
use lib.IntN.{ℤ, pos, negsuc, neg_ℤ, ◌+ℤ◌, ◌-ℤ◌, ◌*ℤ◌, +ℤ_comm, +ℤ_idr, -ℤ-+ℤ_cancel}
use Rattle.integers.specs.Numbers.{clamp}
use Rattle.integers.proofs.Products.{minus_one_*ℤ}
use Rattle.integers.proofs.Linear.{linear, x₀, x₁, x₂, ◌⊕◌, ◌⊖◌}
use Rattle.integers.proofs.Clamping.{clamp_moved}
use Rattle.planes.specs.Planes.{Agree}
use Rattle.turns.proofs.Commuting.{Commutes, same, composed, pointwise, of_both}
use Rattle.filters.specs.Bank.{Bands, split, join, rescaled}
use Rattle.filters.proofs.Linearity.{add_bands, times_bands, split_add, split_times, join_add, join_times}
use Rattle.filters.proofs.Reconstruction.{reconstruct}
use Rattle.filters.proofs.Turned.{exchange_bands, split_commutes, join_commutes}
use Rattle.projection.specs.Projection.{held, hold_details, held_sum, projected}
use Rattle.projection.specs.Fast.{excess, excess_details, difference, lost_sum}

-- ---- what is held, and what is outside
-- holding a value is taking away what its difference to the guide has outside the limit
pub held-excess : (limit guide x : ℤ) → held limit guide x ≡ x -ℤ excess limit (x -ℤ guide)
unfolding held excess
held-excess limit guide x =
    (λ i. clamp (+ℤ_comm guide (neg_ℤ limit) i) (+ℤ_comm guide limit i) (sym (-ℤ-+ℤ_cancel x guide) i))
    ∙ clamp_moved (neg_ℤ limit) limit (x -ℤ guide) guide
    ∙ linear (x ∷ guide ∷ clamp (neg_ℤ limit) limit (x -ℤ guide) ∷ []) (x₂ ⊕ x₁) (x₀ ⊖ ((x₀ ⊖ x₁) ⊖ x₂)) tt

-- ---- differences
-- of all that the four bands hold at a place
abbrev pub minus_bands : Bands ℤ → Bands ℤ → Bands ℤ
minus_bands a b = record { band1 = a.band1 -ℤ b.band1; band2 = a.band2 -ℤ b.band2; band3 = a.band3 -ℤ b.band3; band4 = a.band4 -ℤ b.band4 }

-- as a sum with the opposite, of which the bank's laws speak
minus_bands_is : (a b : Bands ℤ) → minus_bands a b ≡ add_bands a (times_bands (negsuc 0) b)
minus_bands_is a b = λ m. record {
  band1 = a.band1 +ℤ sym (minus_one_*ℤ b.band1) m;
  band2 = a.band2 +ℤ sym (minus_one_*ℤ b.band2) m;
  band3 = a.band3 +ℤ sym (minus_one_*ℤ b.band3) m;
  band4 = a.band4 +ℤ sym (minus_one_*ℤ b.band4) m;
}

-- holding the details is taking away what their differences have outside the limit
pub hold_excess : (limit : ℤ) (guide own : Bands ℤ) → hold_details limit guide own ≡ minus_bands own (excess_details limit (minus_bands own guide))
unfolding hold_details excess_details
hold_excess limit guide own = λ m. record {
  band1 = sym (+ℤ_idr own.band1) m;
  band2 = held-excess limit guide.band2 own.band2 m;
  band3 = held-excess limit guide.band3 own.band3 m;
  band4 = held-excess limit guide.band4 own.band4 m;
}

module _ (d w h : ℕ) where
  -- the bands of a difference
  pub split-difference : (p q : ℕ → ℕ → ℤ) (r c : ℕ) → split d w h (difference p q) r c ≡ minus_bands (split d w h p r c) (split d w h q r c)
  unfolding difference
  split-difference p q r c =
      (λ m. split d w h (λ i j. p i j +ℤ sym (minus_one_*ℤ (q i j)) m) r c) ∙ split_add d w h p (λ i j. negsuc 0 *ℤ q i j) r c
      ∙ ap (add_bands (split d w h p r c)) (split_times d w h (negsuc 0) q r c) ∙ sym (minus_bands_is (split d w h p r c) (split d w h q r c))

  -- the joined sum of a difference
  pub join-difference : (a b : ℕ → ℕ → Bands ℤ) (r c : ℕ) → join d w h (λ i j. minus_bands (a i j) (b i j)) r c ≡ join d w h a r c -ℤ join d w h b r c
  join-difference a b r c =
      (λ m. join d w h (λ i j. minus_bands_is (a i j) (b i j) m) r c) ∙ join_add d w h a (λ i j. times_bands (negsuc 0) (b i j)) r c
      ∙ ap (λ z. join d w h a r c +ℤ z) (join_times d w h (negsuc 0) b r c ∙ minus_one_*ℤ (join d w h b r c))

-- ---- the joined sum of the held bands is 1,024 times the plane, less what is lost
pub held_sum_fast : (w h : ℕ) → 0 < w → 0 < h → (limit : ℤ) (d : ℕ) (guide own : ℕ → ℕ → ℤ)
    → Agree w h (held_sum limit d w h guide own) (λ r c. pos 1024 *ℤ own r c -ℤ lost_sum limit d w h (difference own guide) r c)
unfolding held_sum
held_sum_fast w h wide tall limit d guide own r c hr hc =
    (λ m. join d w h (λ i j. hold_excess limit (split d w h guide i j) (split d w h own i j) m) r c)
    ∙ (λ m. join d w h (λ i j. minus_bands (split d w h own i j) (excess_details limit (sym (split-difference d w h own guide i j) m))) r c)
    ∙ join-difference d w h (split d w h own) (λ i j. excess_details limit (split d w h (difference own guide) i j)) r c
    ∙ ap (λ z. z -ℤ lost_sum limit d w h (difference own guide) r c) (reconstruct w h wide tall d own r c hr hc)

-- ---- turns; a place has its guide's value, and its own
-- both planes split, and the details held
pub held-bands_commute : (limit : ℤ) (d : ℕ)
    → Commutes {A = ℤ × ℤ} same exchange_bands (λ w h l p r c. hold_details limit (split d w h (λ i j. (p i j).0) r c) (split d w h (λ i j. (p i j).1) r c))
held-bands_commute limit d =
    composed (of_both (split_commutes d))
    (pointwise (λ (x : Bands ℤ × Bands ℤ). (exchange_bands x.0, exchange_bands x.1)) exchange_bands (λ x. hold_details limit x.0 x.1) (λ x. unfold hold_details exchange_bands in refl))

-- the joined sum sees only what is inside, and commutes with every turn
pub held_sum_commutes : (limit : ℤ) (d : ℕ) → Commutes {A = ℤ × ℤ} {B = ℤ} same same (λ w h l p. held_sum limit d w h (λ i j. (p i j).0) (λ i j. (p i j).1))
unfolding held_sum
held_sum_commutes limit d = composed (held-bands_commute limit d) (join_commutes d)

-- so does bringing back, whatever the divisor
pub rescaled_commutes : (d : ℕ) (least most : ℤ) → Commutes same same (λ w h l p r c. rescaled d least most (p r c))
rescaled_commutes d least most = pointwise same same (rescaled d least most) (λ z. refl)

-- and so the projection
pub projected_commutes : (limit least most : ℤ) → Commutes {A = ℤ × ℤ} {B = ℤ} same same (λ w h l p. projected limit least most w h (λ i j. (p i j).0) (λ i j. (p i j).1))
unfolding projected
projected_commutes limit least most = composed (held_sum_commutes limit 1) (rescaled_commutes _ least most)

-- guides and planes that agree inside have projections that agree inside
pub projected_agrees : (limit least most : ℤ) (w h : ℕ) (guide guide' own own' : ℕ → ℕ → ℤ) → Agree w h guide guide' → Agree w h own own'
    → Agree w h (projected limit least most w h guide own) (projected limit least most w h guide' own')
projected_agrees limit least most w h guide guide' own own' e f =
    (projected_commutes limit least most).agrees w h 0 (λ i j. (guide i j, own i j)) (λ i j. (guide' i j, own' i j)) (λ r c hr hc. λ m. (e r c hr hc m, f r c hr hc m))
