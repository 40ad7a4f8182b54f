-- Split and join commute with every turn; at an exchange bands 2 and 3 change places. Assumes nothing.
use mathlib.Core.Path.{◌≡◌, refl, sym, ◌∙◌, ap, subst}
use mathlib.Core.List.{[], ◌∷◌}
use Prim.Native.Nat.{ℕ}
use lib.IntN.{ℤ, pos, neg_ℤ, ◌+ℤ◌, +ℤ_assoc, +ℤ_idr, neg_ℤ-+ℤ}
use Rattle.integers.proofs.Linear.{linear, x₀, x₁, x₂, x₃, ◌⊕◌}
use Rattle.border.specs.Border.{reflect}
use Rattle.turns.specs.Operations.{Around, nearby}
use Rattle.turns.specs.Pictures.{Picture, turned, ◌≈◌}
use Rattle.turns.proofs.Commuting.{Commutes, same, commutes_by, nearby_commutes, apply, turned_with, turned_same, apply_turned_with}
use Rattle.filters.specs.Bank.{Taps, tap, along, along_rows, along_columns, filtered, Bands, split, join, low_join, high_join}
use Rattle.filters.proofs.Linearity.{split_by, join_by}
use Rattle.filters.proofs.Taps.{tap_cong, tap_moved, tap-turned, tap-tap}

-- what the bands hold at a place after an exchange
unfoldable pub exchange_bands : Bands ℤ → Bands ℤ
exchange_bands b = record { band1 = b.band1; band2 = b.band3; band3 = b.band2; band4 = b.band4 }

-- ---- both filters, around a place
around : Taps → Taps → ℕ → Around ℤ → ℤ
around tr tc d n = tap tc d (λ i. tap tr d (n i) (pos 0)) (pos 0)

tap-around : (t : Taps) (d : ℕ) (X : ℤ → ℤ) (o : ℕ) → tap t d (λ i. X (pos o +ℤ i)) (pos 0) ≡ tap t d X (pos o)
tap-around t d X o = tap_moved t d X (λ i. pos o +ℤ i) (λ i s. sym (+ℤ_assoc (pos o) i s)) (pos 0) ∙ ap (tap t d X) (+ℤ_idr (pos o))

around-filtered : (tr tc : Taps) (d w h : ℕ) (p : ℕ → ℕ → ℤ) (r c : ℕ)
    → around tr tc d (λ i j. p (reflect h (pos r +ℤ i)) (reflect w (pos c +ℤ j))) ≡ filtered tr tc d w h p r c
unfolding around filtered along_rows along_columns along
around-filtered tr tc d w h p r c =
    tap_cong tc d _ _ (λ i. tap-around tr d (λ j. p (reflect h (pos r +ℤ i)) (reflect w j)) c) (pos 0)
    ∙ tap-around tc d (λ i. tap tr d (λ j. p (reflect h i) (reflect w j)) (pos c)) r

around_exchange : (tr tc : Taps) (d : ℕ) (n : Around ℤ) → around tr tc d (λ i j. n j i) ≡ around tc tr d n
unfolding around
around_exchange tr tc d n = tap-tap tc tr d d n (pos 0) (pos 0)

around_mirror : (tr tc : Taps) (d : ℕ) (n : Around ℤ) → around tr tc d (λ i j. n i (neg_ℤ j)) ≡ around tr tc d n
unfolding around
around_mirror tr tc d n = tap_cong tc d _ _ (λ i. tap-turned tr d (n i) neg_ℤ neg_ℤ-+ℤ (pos 0)) (pos 0)

-- ---- split
pub split_commutes : (d : ℕ) → Commutes same exchange_bands (λ w h l p. split d w h p)
unfolding split nearby exchange_bands
split_commutes d =
    commutes_by
    (λ w h l p r c. λ m. split_by (λ tr tc. around-filtered tr tc d w h p r c m))
    (nearby_commutes same exchange_bands (λ a b n. split_by (λ tr tc. around tr tc d n))
    (λ a b n. λ m. split_by (λ tr tc. around_exchange tr tc d n m))
    (λ a b n. λ m. split_by (λ tr tc. around_mirror tr tc d n m)))

-- ---- join
-- the filters' directions exchanged, and bands 2 and 3
join_exchange : (f : Taps → Taps → (Bands ℤ → ℤ) → ℤ) → join_by (λ tr tc x. f tc tr (λ b. x (exchange_bands b))) ≡ join_by f
unfolding exchange_bands
join_exchange f =
    linear (f low_join low_join (λ b. b.band1) ∷ f high_join low_join (λ b. b.band2) ∷ f low_join high_join (λ b. b.band3) ∷ f high_join high_join (λ b. b.band4) ∷ [])
    (x₀ ⊕ x₂ ⊕ x₁ ⊕ x₃) (x₀ ⊕ x₁ ⊕ x₂ ⊕ x₃) tt

pub join_commutes : (d : ℕ) → Commutes exchange_bands same (λ w h l b. join d w h b)
unfolding join nearby
join_commutes d =
    commutes_by
    (λ w h l b r c. λ m. join_by (λ tr tc x. around-filtered tr tc d w h (λ i j. x (b i j)) r c m))
    (nearby_commutes exchange_bands same (λ a b n. join_by (λ tr tc x. around tr tc d (λ i j. x (n i j))))
    (λ a b n. (λ m. join_by (λ tr tc x. around_exchange tr tc d (λ i j. x (exchange_bands (n i j))) m)) ∙ join_exchange (λ tr tc x. around tr tc d (λ i j. x (n i j))))
    (λ a b n. λ m. join_by (λ tr tc x. around_mirror tr tc d (λ i j. x (n i j)) m)))

-- ---- every turn: the bands of a turned plane are its bands turned, and the joined sums of turned bands the sums turned
exchange_twice : (b : Bands ℤ) → exchange_bands (exchange_bands b) ≡ b
unfolding exchange_bands
exchange_twice b = refl

pub split-turned : (d t : ℕ) (p : Picture ℤ) → apply (λ w h l q. split d w h q) (turned t p) ≈ turned_with exchange_bands t (apply (λ w h l q. split d w h q) p)
split-turned d t p =
    subst (λ (q : Picture ℤ). apply (λ w h l x. split d w h x) q ≈ turned_with exchange_bands t (apply (λ w h l x. split d w h x) p)) (turned_same t p)
    (apply_turned_with (split_commutes d) (λ z. refl) exchange_twice t p)

pub join-turned : (d t : ℕ) (b : Picture (Bands ℤ)) → apply (λ w h l q. join d w h q) (turned_with exchange_bands t b) ≈ turned t (apply (λ w h l q. join d w h q) b)
join-turned d t b =
    subst (λ (q : Picture ℤ). apply (λ w h l x. join d w h x) (turned_with exchange_bands t b) ≈ q) (turned_same t (apply (λ w h l x. join d w h x) b))
    (apply_turned_with (join_commutes d) exchange_twice (λ z. refl) t b)
