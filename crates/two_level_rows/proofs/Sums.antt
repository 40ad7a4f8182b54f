-- The planes that the stages make, row by row, and that they are the bank's sums: the second level's joined sum taken apart by 1,024, both levels
-- merged, and the whole settled. Assumes nothing.
use mathlib.Core.Path.{◌≡◌, sym, ◌∙◌, ap, fun_ext}
use mathlib.Core.List.{[], ◌∷◌}
use Prim.Native.Nat.{ℕ, ◌*◌, ◌<◌}
use lib.IntN.{ℤ, pos, ◌+ℤ◌, ◌-ℤ◌, ◌*ℤ◌}
use Rattle.integers.proofs.Linear.{linear, x₀, x₁, x₂, x₃, ◌⊕◌, ◌⊖◌, ◌⊛◌}
use Rattle.border.specs.Border.{reflect}
use Rattle.filters.specs.Bank.{weighted, along, along_rows, along_columns, filtered, split, low_split, low_join, high_join, rescaled}
use Rattle.filters.proofs.Taps.{weighted_add, weighted_times}
use Rattle.filters.proofs.Linearity.{along_cong, along_add, along_times, filtered_by_rows}
use Rattle.projection.specs.Projection.{Limits, low_band, two_level_projected}
use Rattle.projection.specs.Fast.{difference, lost_sum, two_level_lost, crossed_along}
use Rattle.projection.proofs.Parts.{apart_plane, together_plane, crossed_parts, crossed_merged}
use Rattle.projection.proofs.Levels.{two_level_sum_lost, two_level_lost_parts}
use Rattle.nested_floor.specs.NestedFloor.{whole, rest, settled_two}
use Rattle.nested_floor.proofs.NestedFloor.{parts_sum}

-- ---- the planes; p is a plane, or a difference of two
-- band 1, along the columns first
unfoldable pub band_plane : ℕ → ℕ → (ℕ → ℕ → ℤ) → ℕ → ℕ → ℤ
band_plane w h p r = along low_split 1 w (along_columns low_split 1 h p r)

-- the second level's joined sum, of each value its part by f
unfoldable pub crossed_plane : (ℤ → ℤ) → ℤ → ℕ → ℕ → (ℕ → ℕ → ℤ) → ℕ → ℕ → ℤ
crossed_plane f second w h p r c = crossed_along 2 h (λ i. f (apart_plane second 2 w h p i c)) (λ i. f (together_plane second 2 w h p i c)) r

-- both levels merged, and the rests
unfoldable pub merged_apart : Limits → ℕ → ℕ → (ℕ → ℕ → ℤ) → ℕ → ℕ → ℤ
merged_apart limits w h p r c = apart_plane limits.first 1 w h p r c -ℤ along low_join 1 w (crossed_plane whole limits.second w h (band_plane w h p) r) c

unfoldable pub merged_together : Limits → ℕ → ℕ → (ℕ → ℕ → ℤ) → ℕ → ℕ → ℤ
merged_together limits w h p r c = together_plane limits.first 1 w h p r c +ℤ along low_join 1 w (crossed_plane whole limits.second w h (band_plane w h p) r) c

unfoldable pub rest_plane : Limits → ℕ → ℕ → (ℕ → ℕ → ℤ) → ℕ → ℕ → ℤ
rest_plane limits w h p r c = along low_join 1 w (crossed_plane rest limits.second w h (band_plane w h p) r) c

-- settled
unfoldable pub settled_plane : Limits → ℤ → ℤ → ℕ → ℕ → (ℕ → ℕ → ℤ) → (ℕ → ℕ → ℤ) → ℕ → ℕ → ℤ
settled_plane limits least most w h own p r c =
    settled_two least most (own r c) (crossed_along 1 h (λ i. merged_apart limits w h p i c) (λ i. merged_together limits w h p i c) r) (along low_join 1 h (λ i. rest_plane limits w h p i c) r)

-- ---- taken apart: the crossing of numbers is 1,024 times that of their whole parts, and that of their rests
crossed_apart : (d n : ℕ) (x y : ℕ → ℤ) (i : ℕ)
    → crossed_along d n x y i ≡ pos 1024 *ℤ crossed_along d n (λ k. whole (x k)) (λ k. whole (y k)) i +ℤ crossed_along d n (λ k. rest (x k)) (λ k. rest (y k)) i
unfolding crossed_along
crossed_apart d n x y i =
    (λ m. weighted high_join (parts_sum (x a) m) (parts_sum (y b) m) (parts_sum (x c) m) (parts_sum (y e) m) (parts_sum (x f) m))
    ∙ weighted_add high_join _ _ _ _ _ _ _ _ _ _
    ∙ ap (λ (z : ℤ). z +ℤ weighted high_join (rest (x a)) (rest (y b)) (rest (x c)) (rest (y e)) (rest (x f))) (weighted_times high_join (pos 1024) (whole (x a)) (whole (y b)) (whole (x c)) (whole (y e)) (whole (x f)))
  where
    a : ℕ
    a = reflect n (pos i -ℤ pos (2 * d))

    b : ℕ
    b = reflect n (pos i -ℤ pos d)

    c : ℕ
    c = reflect n (pos i)

    e : ℕ
    e = reflect n (pos i +ℤ pos d)

    f : ℕ
    f = reflect n (pos i +ℤ pos (2 * d))

-- ---- both levels
module _ (limits : Limits) (w h : ℕ) (p : ℕ → ℕ → ℤ) where
  band_is : band_plane w h p ≡ low_band w h p
  unfolding band_plane low_band split
  band_is = fun_ext (λ r. fun_ext (λ c. filtered_by_rows low_split low_split 1 w h p r c))

  -- what the second level loses, taken apart
  Lost : ℕ → ℕ → ℤ
  Lost = lost_sum limits.second 2 w h (low_band w h p)

  Wholes : ℕ → ℕ → ℤ
  Wholes = crossed_plane whole limits.second w h (band_plane w h p)

  Rests : ℕ → ℕ → ℤ
  Rests = crossed_plane rest limits.second w h (band_plane w h p)

  second_apart : (r c : ℕ) → pos 1024 *ℤ Wholes r c +ℤ Rests r c ≡ Lost r c
  unfolding Wholes Rests Lost crossed_plane
  second_apart r c =
      sym (crossed_apart 2 h (λ i. apart_plane limits.second 2 w h (band_plane w h p) i c) (λ i. together_plane limits.second 2 w h (band_plane w h p) i c) r)
      ∙ crossed_parts limits.second 2 w h (band_plane w h p) r c ∙ ap (λ (q : ℕ → ℕ → ℤ). lost_sum limits.second 2 w h q r c) band_is

  -- through the low join taps both ways
  low_apart : (r c : ℕ) → pos 1024 *ℤ along low_join 1 h (λ i. along low_join 1 w (Wholes i) c) r +ℤ along low_join 1 h (λ i. along low_join 1 w (Rests i) c) r ≡ filtered low_join low_join 1 w h Lost r c
  unfolding filtered along_rows along_columns
  low_apart r c =
      ap (λ (z : ℤ). z +ℤ along low_join 1 h (λ i. along low_join 1 w (Rests i) c) r) (sym (along_times low_join 1 h (pos 1024) (λ i. along low_join 1 w (Wholes i) c) r))
      ∙ sym (along_add low_join 1 h (λ i. pos 1024 *ℤ along low_join 1 w (Wholes i) c) (λ i. along low_join 1 w (Rests i) c) r)
      ∙ along_cong low_join 1 h _ _ (λ j. line (reflect h j)) r
    where
      line : (i : ℕ) → pos 1024 *ℤ along low_join 1 w (Wholes i) c +ℤ along low_join 1 w (Rests i) c ≡ along low_join 1 w (Lost i) c
      line i =
          ap (λ (z : ℤ). z +ℤ along low_join 1 w (Rests i) c) (sym (along_times low_join 1 w (pos 1024) (Wholes i) c))
          ∙ sym (along_add low_join 1 w (λ j. pos 1024 *ℤ Wholes i j) (Rests i) c)
          ∙ along_cong low_join 1 w _ _ (λ j. second_apart i (reflect w j)) c

  -- so the settled plane is the fast form
  settled_fast : (least most : ℤ) (own : ℕ → ℕ → ℤ) (r c : ℕ) → settled_plane limits least most w h own p r c ≡ rescaled 1048576 least most (pos 1048576 *ℤ own r c -ℤ two_level_lost limits w h p r c)
  unfolding settled_plane settled_two merged_apart merged_together rest_plane Wholes Rests Lost
  settled_fast least most own r c =
      ap (rescaled 1048576 least most)
      (ap (λ (z : ℤ). pos 1024 *ℤ (pos 1024 *ℤ own r c -ℤ z) -ℤ Q)
      (crossed_merged 1 h r (λ i. apart_plane limits.first 1 w h p i c) (λ i. together_plane limits.first 1 w h p i c) (λ i. along low_join 1 w (Wholes i) c) ∙ ap (λ (z : ℤ). z +ℤ M) (crossed_parts limits.first 1 w h p r c))
      ∙ linear (own r c ∷ lost_sum limits.first 1 w h p r c ∷ M ∷ Q ∷ []) (pos 1024 ⊛ (pos 1024 ⊛ x₀ ⊖ (x₁ ⊕ x₂)) ⊖ x₃) (pos 1048576 ⊛ x₀ ⊖ ((pos 1024 ⊛ x₂ ⊕ x₃) ⊕ pos 1024 ⊛ x₁)) tt
      ∙ ap (λ (z : ℤ). pos 1048576 *ℤ own r c -ℤ (z +ℤ pos 1024 *ℤ lost_sum limits.first 1 w h p r c)) (low_apart r c)
      ∙ ap (λ (z : ℤ). pos 1048576 *ℤ own r c -ℤ z) (sym (two_level_lost_parts limits w h p r c)))
    where
      M : ℤ
      M = along low_join 1 h (λ i. along low_join 1 w (Wholes i) c) r

      Q : ℤ
      Q = along low_join 1 h (λ i. along low_join 1 w (Rests i) c) r

-- and the projection
pub settled-projected : (limits : Limits) (least most : ℤ) (w h : ℕ) → 0 < w → 0 < h → (guide own : ℕ → ℕ → ℤ) (r c : ℕ) → r < h → c < w
    → settled_plane limits least most w h own (difference own guide) r c ≡ two_level_projected limits least most w h guide own r c
unfolding two_level_projected
settled-projected limits least most w h wide tall guide own r c i j =
    settled_fast limits w h (difference own guide) least most own r c ∙ ap (rescaled 1048576 least most) (sym (two_level_sum_lost w h wide tall limits guide own r c i j))
