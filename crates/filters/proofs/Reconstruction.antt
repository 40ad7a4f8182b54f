-- Demand 2's exactness: splitting a plane and joining its bands gives 1,024 times the plane, at every size and spacing. A band,
-- reflected at its border, is the filtered endless plane, so that the two directions are two endless lines.
-- Assumes nothing.
use mathlib.Core.Path.{◌≡◌, refl, sym, ◌∙◌, ap, fun_ext}
use mathlib.Core.List.{[], ◌∷◌}
use Prim.Native.Nat.{ℕ, ◌<◌}
use lib.IntN.{ℤ, pos, neg_ℤ, ◌+ℤ◌, ◌*ℤ◌, neg_ℤ-+ℤ, +ℤ_assoc}
use Rattle.integers.proofs.Products.{*ℤ_+ℤ, *ℤ_assoc}
use Rattle.integers.proofs.Linear.{linear, x₀, x₁, x₂, ◌⊕◌}
use Rattle.border.specs.Border.{reflect}
use Rattle.border.proofs.Reflection.{period, reflect_neg, reflect_period, reflect_fixes, reflect_inside}
use Rattle.filters.specs.Bank.{Taps, tap, along, along_rows, along_columns, filtered, split, join, low_split, high_split, low_join, high_join}
use Rattle.filters.proofs.Taps.{tap_cong, tap_moved, tap-turned, tap_add, tap_times, tap-tap, whole-line}

-- ---- endless planes
-- the taps along each row, and along each column
unfoldable pub across : Taps → ℕ → (ℤ → ℤ → ℤ) → ℤ → ℤ → ℤ
across t d X i j = tap t d (X i) j

unfoldable pub down : Taps → ℕ → (ℤ → ℤ → ℤ) → ℤ → ℤ → ℤ
down t d X i j = tap t d (λ r. X r j) i

unfoldable plus : (ℤ → ℤ → ℤ) → (ℤ → ℤ → ℤ) → ℤ → ℤ → ℤ
plus X Y i j = X i j +ℤ Y i j

unfoldable times : ℤ → (ℤ → ℤ → ℤ) → ℤ → ℤ → ℤ
times k X i j = k *ℤ X i j

across_down : (t s : Taps) (d : ℕ) (X : ℤ → ℤ → ℤ) → across t d (down s d X) ≡ down s d (across t d X)
unfolding across down
across_down t s d X = fun_ext (λ i. fun_ext (λ j. tap-tap t s d d X i j))

down_plus : (t : Taps) (d : ℕ) (X Y : ℤ → ℤ → ℤ) → down t d (plus X Y) ≡ plus (down t d X) (down t d Y)
unfolding down plus
down_plus t d X Y = fun_ext (λ i. fun_ext (λ j. tap_add t d (λ r. X r j) (λ r. Y r j) i))

down_times : (t : Taps) (d : ℕ) (k : ℤ) (X : ℤ → ℤ → ℤ) → down t d (times k X) ≡ times k (down t d X)
unfolding down times
down_times t d k X = fun_ext (λ i. fun_ext (λ j. tap_times t d k (λ r. X r j) i))

whole_across : (d : ℕ) (X : ℤ → ℤ → ℤ) → plus (across low_join d (across low_split d X)) (across high_join d (across high_split d X)) ≡ times (pos 32) X
unfolding across plus times
whole_across d X = fun_ext (λ i. fun_ext (λ j. whole-line d (X i) j))

whole_down : (d : ℕ) (X : ℤ → ℤ → ℤ) → plus (down low_join d (down low_split d X)) (down high_join d (down high_split d X)) ≡ times (pos 32) X
unfolding down plus times
whole_down d X = fun_ext (λ i. fun_ext (λ j. whole-line d (λ r. X r j) i))

plus_assoc : (A B C D : ℤ → ℤ → ℤ) → plus (plus (plus A B) C) D ≡ plus (plus A B) (plus C D)
unfolding plus
plus_assoc A B C D = fun_ext (λ i. fun_ext (λ j. +ℤ_assoc (A i j +ℤ B i j) (C i j) (D i j)))

plus_times : (k : ℤ) (A B : ℤ → ℤ → ℤ) → plus (times k A) (times k B) ≡ times k (plus A B)
unfolding plus times
plus_times k A B = fun_ext (λ i. fun_ext (λ j. sym (*ℤ_+ℤ k (A i j) (B i j))))

times_twice : (X : ℤ → ℤ → ℤ) → times (pos 32) (times (pos 32) X) ≡ times (pos 1024) X
unfolding times
times_twice X = fun_ext (λ i. fun_ext (λ j. sym (*ℤ_assoc (pos 32) (pos 32) (X i j))))

-- the two bands that have the same filter along columns
whole-half : (d : ℕ) (j s : Taps) (X : ℤ → ℤ → ℤ)
    → plus (down j d (across low_join d (down s d (across low_split d X)))) (down j d (across high_join d (down s d (across high_split d X))))
    ≡ times (pos 32) (down j d (down s d X))
whole-half d j s X =
    rw (across_down low_join s, across_down high_join s, ← down_plus j d, ← down_plus s d, whole_across, down_times s, down_times j)

whole-plane : (d : ℕ) (X : ℤ → ℤ → ℤ)
    → plus (plus (plus (down low_join d (across low_join d (down low_split d (across low_split d X))))
    (down low_join d (across high_join d (down low_split d (across high_split d X)))))
    (down high_join d (across low_join d (down high_split d (across low_split d X)))))
    (down high_join d (across high_join d (down high_split d (across high_split d X))))
    ≡ times (pos 1024) X
whole-plane d X =
    rw (plus_assoc, whole-half d low_join low_split X, whole-half d high_join high_split X, plus_times, whole_down, times_twice)

-- ---- a filtered line, reflected at its border, is the filtered endless line
pub along-reflect : (t : Taps) (d n : ℕ) → 0 < n → (line : ℕ → ℤ) (i : ℤ) → along t d n line (reflect n i) ≡ tap t d (λ j. line (reflect n j)) i
unfolding along
along-reflect t d n some line = reflect_fixes n some (tap t d X) even again
  where
    X : ℤ → ℤ
    X j = line (reflect n j)

    even : (i : ℤ) → tap t d X (neg_ℤ i) ≡ tap t d X i
    even i = sym (tap-turned t d X neg_ℤ neg_ℤ-+ℤ i) ∙ tap_cong t d (λ j. X (neg_ℤ j)) X (λ j. ap line (reflect_neg n j)) i

    again : (i : ℤ) → tap t d X (i +ℤ pos (period n)) ≡ tap t d X i
    again i =
        sym (tap_moved t d X (λ j. j +ℤ pos (period n)) (λ j s. linear (j ∷ s ∷ pos (period n) ∷ []) (x₀ ⊕ x₁ ⊕ x₂) (x₀ ⊕ x₂ ⊕ x₁) tt) i)
        ∙ tap_cong t d (λ j. X (j +ℤ pos (period n))) X (λ j. ap line (reflect_period n j)) i

-- a plane of width w and height h, reflected at its border
unfoldable pub endless : ℕ → ℕ → (ℕ → ℕ → ℤ) → ℤ → ℤ → ℤ
endless w h p i j = p (reflect h i) (reflect w j)

module _ (w h : ℕ) (wide : 0 < w) (high : 0 < h) where
  endless_filtered : (tr tc : Taps) (d : ℕ) (p : ℕ → ℕ → ℤ) → endless w h (filtered tr tc d w h p) ≡ down tc d (across tr d (endless w h p))
  unfolding endless filtered along_rows along_columns down across
  endless_filtered tr tc d p =
      fun_ext (λ i. fun_ext (λ j.
      along-reflect tc d h high (λ r. along tr d w (p r) (reflect w j)) i
      ∙ tap_cong tc d _ _ (λ a. along-reflect tr d w wide (p (reflect h a)) j) i))

  -- join of split, as operators on the endless plane
  endless_bank : (d : ℕ) (p : ℕ → ℕ → ℤ) → endless w h (join d w h (split d w h p)) ≡ times (pos 1024) (endless w h p)
  endless_bank d p = parts ∙ rw (endless_filtered low_join low_join, endless_filtered high_join low_join, endless_filtered low_join high_join, endless_filtered high_join high_join, endless_filtered low_split low_split, endless_filtered high_split low_split, endless_filtered low_split high_split, endless_filtered high_split high_split) (whole-plane d (endless w h p))
    where
      parts : endless w h (join d w h (split d w h p))
          ≡ plus (plus (plus (endless w h (filtered low_join low_join d w h (filtered low_split low_split d w h p))) (endless w h (filtered high_join low_join d w h (filtered high_split low_split d w h p)))) (endless w h (filtered low_join high_join d w h (filtered low_split high_split d w h p)))) (endless w h (filtered high_join high_join d w h (filtered high_split high_split d w h p)))
      parts = unfold endless join split plus in refl

  -- splitting any plane and joining its four bands gives 1,024 times the plane
  pub reconstruct : (d : ℕ) (p : ℕ → ℕ → ℤ) (r c : ℕ) → r < h → c < w → join d w h (split d w h p) r c ≡ pos 1024 *ℤ p r c
  unfolding times
  reconstruct d p r c hr hc =
      sym (at (join d w h (split d w h p))) ∙ ap (λ (X : ℤ → ℤ → ℤ). X (pos r) (pos c)) (endless_bank d p) ∙ ap (λ z. pos 1024 *ℤ z) (at p)
    where
      at : (q : ℕ → ℕ → ℤ) → endless w h q (pos r) (pos c) ≡ q r c
      at q = unfold endless in (λ m. q (reflect_inside h r hr m) (reflect_inside w c hc m))
