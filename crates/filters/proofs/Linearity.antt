-- Split and join are linear, and it is all one whether rows or columns are filtered first. Assumes nothing.
use mathlib.Core.Path.{◌≡◌, sym, ◌∙◌, ap}
use mathlib.Core.List.{[], ◌∷◌}
use Prim.Native.Nat.{ℕ}
use lib.IntN.{ℤ, pos, ◌+ℤ◌, ◌*ℤ◌}
use Rattle.integers.proofs.Products.{*ℤ_+ℤ}
use Rattle.integers.proofs.Linear.{linear, atom, x₀, x₁, x₂, x₃, ◌⊕◌}
use Rattle.border.specs.Border.{reflect}
use Rattle.filters.specs.Bank.{Taps, along, along_rows, along_columns, filtered, Bands, split, join, low_split, high_split, low_join, high_join}
use Rattle.filters.proofs.Taps.{tap_cong, tap_add, tap_times, tap-tap}

-- ---- a line
module _ (t : Taps) (d n : ℕ) where
  pub along_add : (x y : ℕ → ℤ) (i : ℕ) → along t d n (λ j. x j +ℤ y j) i ≡ along t d n x i +ℤ along t d n y i
  unfolding along
  along_add x y i = tap_add t d (λ j. x (reflect n j)) (λ j. y (reflect n j)) (pos i)

  pub along_times : (k : ℤ) (x : ℕ → ℤ) (i : ℕ) → along t d n (λ j. k *ℤ x j) i ≡ k *ℤ along t d n x i
  unfolding along
  along_times k x i = tap_times t d k (λ j. x (reflect n j)) (pos i)

  pub along_cong : (x y : ℕ → ℤ) → ((j : ℤ) → x (reflect n j) ≡ y (reflect n j)) → (i : ℕ) → along t d n x i ≡ along t d n y i
  unfolding along
  along_cong x y e i = tap_cong t d (λ j. x (reflect n j)) (λ j. y (reflect n j)) e (pos i)

-- ---- a plane
module _ (tr tc : Taps) (d w h : ℕ) where
  -- columns first, as code goes
  pub filtered_by_rows : (p : ℕ → ℕ → ℤ) (r c : ℕ) → along tr d w (along_columns tc d h p r) c ≡ filtered tr tc d w h p r c
  unfolding filtered along_rows along_columns along
  filtered_by_rows p r c = tap-tap tr tc d d (λ i j. p (reflect h i) (reflect w j)) (pos r) (pos c)

  filtered_add : (p q : ℕ → ℕ → ℤ) (r c : ℕ) → filtered tr tc d w h (λ i j. p i j +ℤ q i j) r c ≡ filtered tr tc d w h p r c +ℤ filtered tr tc d w h q r c
  unfolding filtered along_rows along_columns
  filtered_add p q r c =
      along_cong tc d h _ _ (λ i. along_add tr d w (p (reflect h i)) (q (reflect h i)) c) r
      ∙ along_add tc d h (λ i. along tr d w (p i) c) (λ i. along tr d w (q i) c) r

  filtered_times : (k : ℤ) (p : ℕ → ℕ → ℤ) (r c : ℕ) → filtered tr tc d w h (λ i j. k *ℤ p i j) r c ≡ k *ℤ filtered tr tc d w h p r c
  unfolding filtered along_rows along_columns
  filtered_times k p r c =
      along_cong tc d h _ _ (λ i. along_times tr d w k (p (reflect h i)) c) r ∙ along_times tc d h k (λ i. along tr d w (p i) c) r

-- ---- the bank
-- four bands, each by the split filters along rows and along columns; and four joined, each by its join filters
abbrev pub split_by : (Taps → Taps → ℤ) → Bands ℤ
split_by f = record { band1 = f low_split low_split; band2 = f high_split low_split; band3 = f low_split high_split; band4 = f high_split high_split }

abbrev pub join_by : (Taps → Taps → (Bands ℤ → ℤ) → ℤ) → ℤ
join_by f = f low_join low_join (λ b. b.band1) +ℤ f high_join low_join (λ b. b.band2) +ℤ f low_join high_join (λ b. b.band3) +ℤ f high_join high_join (λ b. b.band4)

-- sums and multiples of all that the four bands hold at a place
abbrev pub add_bands : Bands ℤ → Bands ℤ → Bands ℤ
add_bands a b = record { band1 = a.band1 +ℤ b.band1; band2 = a.band2 +ℤ b.band2; band3 = a.band3 +ℤ b.band3; band4 = a.band4 +ℤ b.band4 }

abbrev pub times_bands : ℤ → Bands ℤ → Bands ℤ
times_bands k b = record { band1 = k *ℤ b.band1; band2 = k *ℤ b.band2; band3 = k *ℤ b.band3; band4 = k *ℤ b.band4 }

join_by_add : (f g : Taps → Taps → (Bands ℤ → ℤ) → ℤ) → join_by (λ tr tc x. f tr tc x +ℤ g tr tc x) ≡ join_by f +ℤ join_by g
join_by_add f g =
    linear (f low_join low_join (λ b. b.band1) ∷ f high_join low_join (λ b. b.band2) ∷ f low_join high_join (λ b. b.band3) ∷ f high_join high_join (λ b. b.band4)
    ∷ g low_join low_join (λ b. b.band1) ∷ g high_join low_join (λ b. b.band2) ∷ g low_join high_join (λ b. b.band3) ∷ g high_join high_join (λ b. b.band4) ∷ [])
    ((x₀ ⊕ atom 4) ⊕ (x₁ ⊕ atom 5) ⊕ (x₂ ⊕ atom 6) ⊕ (x₃ ⊕ atom 7)) ((x₀ ⊕ x₁ ⊕ x₂ ⊕ x₃) ⊕ (atom 4 ⊕ atom 5 ⊕ atom 6 ⊕ atom 7)) tt

join_by_times : (k : ℤ) (f : Taps → Taps → (Bands ℤ → ℤ) → ℤ) → join_by (λ tr tc x. k *ℤ f tr tc x) ≡ k *ℤ join_by f
join_by_times k f = sym (*ℤ_+ℤ k (A +ℤ B +ℤ C) D ∙ ap (λ z. z +ℤ k *ℤ D) (*ℤ_+ℤ k (A +ℤ B) C ∙ ap (λ z. z +ℤ k *ℤ C) (*ℤ_+ℤ k A B)))
  where
    A : ℤ
    A = f low_join low_join (λ b. b.band1)

    B : ℤ
    B = f high_join low_join (λ b. b.band2)

    C : ℤ
    C = f low_join high_join (λ b. b.band3)

    D : ℤ
    D = f high_join high_join (λ b. b.band4)

module _ (d w h : ℕ) where
  pub split_add : (p q : ℕ → ℕ → ℤ) (r c : ℕ) → split d w h (λ i j. p i j +ℤ q i j) r c ≡ add_bands (split d w h p r c) (split d w h q r c)
  unfolding split
  split_add p q r c = λ m. split_by (λ tr tc. filtered_add tr tc d w h p q r c m)

  pub split_times : (k : ℤ) (p : ℕ → ℕ → ℤ) (r c : ℕ) → split d w h (λ i j. k *ℤ p i j) r c ≡ times_bands k (split d w h p r c)
  unfolding split
  split_times k p r c = λ m. split_by (λ tr tc. filtered_times tr tc d w h k p r c m)

  pub join_add : (a b : ℕ → ℕ → Bands ℤ) (r c : ℕ) → join d w h (λ i j. add_bands (a i j) (b i j)) r c ≡ join d w h a r c +ℤ join d w h b r c
  unfolding join
  join_add a b r c =
      (λ m. join_by (λ tr tc x. filtered_add tr tc d w h (λ i j. x (a i j)) (λ i j. x (b i j)) r c m))
      ∙ join_by_add (λ tr tc x. filtered tr tc d w h (λ i j. x (a i j)) r c) (λ tr tc x. filtered tr tc d w h (λ i j. x (b i j)) r c)

  pub join_times : (k : ℤ) (b : ℕ → ℕ → Bands ℤ) (r c : ℕ) → join d w h (λ i j. times_bands k (b i j)) r c ≡ k *ℤ join d w h b r c
  unfolding join
  join_times k b r c =
      (λ m. join_by (λ tr tc x. filtered_times tr tc d w h k (λ i j. x (b i j)) r c m)) ∙ join_by_times k (λ tr tc x. filtered tr tc d w h (λ i j. x (b i j)) r c)

  -- as code goes: along the columns, bands 1 and 3 summed and bands 2 and 4 summed, and then along the rows
  pub join_by_rows : (b : ℕ → ℕ → Bands ℤ) (r c : ℕ)
      → along low_join d w (λ j. along_columns low_join d h (λ i j. (b i j).band1) r j +ℤ along_columns high_join d h (λ i j. (b i j).band3) r j) c
      +ℤ along high_join d w (λ j. along_columns low_join d h (λ i j. (b i j).band2) r j +ℤ along_columns high_join d h (λ i j. (b i j).band4) r j) c
      ≡ join d w h b r c
  unfolding join
  join_by_rows b r c =
      (λ m. pair low_join (λ x. x.band1) (λ x. x.band3) m +ℤ pair high_join (λ x. x.band2) (λ x. x.band4) m)
      ∙ linear (part low_join low_join (λ x. x.band1) ∷ part high_join low_join (λ x. x.band2) ∷ part low_join high_join (λ x. x.band3) ∷ part high_join high_join (λ x. x.band4) ∷ [])
      ((x₀ ⊕ x₂) ⊕ (x₁ ⊕ x₃)) (x₀ ⊕ x₁ ⊕ x₂ ⊕ x₃) tt
    where
      part : Taps → Taps → (Bands ℤ → ℤ) → ℤ
      part tr tc x = filtered tr tc d w h (λ i j. x (b i j)) r c

      pair : (tr : Taps) (x y : Bands ℤ → ℤ)
          → along tr d w (λ j. along_columns low_join d h (λ i j. x (b i j)) r j +ℤ along_columns high_join d h (λ i j. y (b i j)) r j) c ≡ part tr low_join x +ℤ part tr high_join y
      pair tr x y =
          along_add tr d w (along_columns low_join d h (λ i j. x (b i j)) r) (along_columns high_join d h (λ i j. y (b i j)) r) c
          ∙ (λ m. filtered_by_rows tr low_join d w h (λ i j. x (b i j)) r c m +ℤ filtered_by_rows tr high_join d w h (λ i j. y (b i j)) r c m)
