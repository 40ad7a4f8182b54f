-- The green update, place by place: mixing is the projection with the limit 0, a place reads only the places that have its own
-- parities, and what it gets is a sample. Assumes nothing.
use mathlib.Core.Path.{◌≡◌, refl, sym, ◌∙◌, ap, subst}
use mathlib.Core.Bool.{Bool, true, false, cond, not, ◌&&◌}
use Prim.Native.Nat.{ℕ, ◌+◌, ◌*◌, ◌-◌, ◌/◌, ◌%◌, ◌≤◌, ◌<◌}
use native.Mathlib.Omega.{arith}
use lib.Dec.{T, eqb, eqb→eq}
use lib.IntN.{ℤ, pos, nat_abs, ◌+ℤ◌, ◌-ℤ◌, +ℤ_idr}
use lib.Signed.{◌≤ℤ◌}
use Rattle.integers.specs.Numbers.{rounded, clamp}
use Rattle.integers.proofs.Tests.{cond_cases}
use Rattle.integers.proofs.Order.{≤ℤ_antisym}
use Rattle.integers.proofs.Clamping.{clamp_cases, clamp-sample}
use Rattle.planes.specs.Layout.{red_row, red_column, on_red_row, on_red_column}
use Rattle.planes.specs.Places.{half}
use Rattle.planes.proofs.Layouts.{row_lt, column_lt}
use Rattle.planes.proofs.Places.{other_parity}
use Rattle.filters.specs.Bank.{Bands, split, join, brought_back}
use Rattle.projection.specs.Projection.{held, hold_details, held_sum, projected}
use Rattle.update.specs.Update.{small_plane, mix, mixed, put_mixed, update}

-- ---- mixing is the projection with the limit 0
-- a value held by a limit of 0 is the guide's
pub held_none : (guide x : ℤ) → held (pos 0) guide x ≡ guide
unfolding held
held_none guide x =
    clamp_cases (guide -ℤ pos 0) (guide +ℤ pos 0) x (λ y. y ≡ guide) (λ e. +ℤ_idr guide) (λ e. +ℤ_idr guide)
    (λ h k. ≤ℤ_antisym (subst (λ (y : ℤ). x ≤ℤ y) (+ℤ_idr guide) k) (subst (λ (y : ℤ). y ≤ℤ x) (+ℤ_idr guide) h))

-- so are the details
pub hold_none : (green colour : Bands ℤ) → hold_details (pos 0) colour green ≡ mix green colour
unfolding hold_details mix
hold_none green colour = λ m. record {
  band1 = green.band1;
  band2 = held_none colour.band2 green.band2 m;
  band3 = held_none colour.band3 green.band3 m;
  band4 = held_none colour.band4 green.band4 m;
}

-- the guide is the colour, and the plane is green
pub mixed-projected : (top w h : ℕ) (green colour : ℕ → ℕ → ℤ) (r c : ℕ) → mixed top w h green colour r c ≡ nat_abs (projected (pos 0) (pos 0) (pos top) w h colour green r c)
unfolding mixed brought_back projected held_sum
mixed-projected top w h green colour r c =
    λ m. nat_abs (clamp (pos 0) (pos top) (rounded 1024 (join 1 w h (λ i j. sym (hold_none (split 1 w h green i j) (split 1 w h colour i j)) m) r c)))

-- what is mixed is a sample
pub mixed_bound : (top w h : ℕ) (green colour : ℕ → ℕ → ℤ) (r c : ℕ) → mixed top w h green colour r c ≤ top
unfolding mixed brought_back
mixed_bound top w h green colour r c = (clamp-sample top _).0

-- ---- every second place of n, from a on
-- the mirrored place's small line is as long
pub places_mirror : (n c : ℕ) → c < n → half n (c % 2) ≡ half n ((n - 1 - c) % 2)
unfolding half
places_mirror n c h = omega arith

-- and in it the mirrored place is the mirrored one
pub small_mirror : (n c : ℕ) → c < n → half n (c % 2) - 1 - c / 2 ≡ (n - 1 - c) / 2
unfolding half
small_mirror n c h = omega arith

-- the place of the line that is the mirror of place j of a small line
pub place_mirror : (n c j : ℕ) → c < n → j < half n (c % 2) → n - 1 - (2 * j + c % 2) ≡ 2 * (half n (c % 2) - 1 - j) + (n - 1 - c) % 2
unfolding half
place_mirror n c j h hj = omega arith

-- ---- an update by a place's own parities
-- from the small planes of the places with these parities; a place has its mosaic sample, and its green
unfoldable pub own_mixed : ℕ → ℕ → ℕ → (ℕ → ℕ → ℕ) → (ℕ → ℕ → ℕ) → ℕ → ℕ → ℕ
own_mixed top w h mosaic green r c =
    mixed top (half w (c % 2)) (half h (r % 2)) (small_plane (r % 2) (c % 2) (λ i j. pos (green i j))) (small_plane (r % 2) (c % 2) (λ i j. pos (mosaic i j))) (r / 2) (c / 2)

-- a place put into a plane is put there from the places with its own parities
pub put_mixed_own : (top w h a b : ℕ) (mosaic green plane : ℕ → ℕ → ℕ) (r c : ℕ)
    → put_mixed top w h a b mosaic green plane r c ≡ cond (eqb (r % 2) a && eqb (c % 2) b) (own_mixed top w h mosaic green r c) (plane r c)
unfolding put_mixed own_mixed
put_mixed_own top w h a b mosaic green plane r c = go (eqb (r % 2) a) (eqb (c % 2) b) (eqb→eq (r % 2) a) (eqb→eq (c % 2) b)
  where
    at : ℕ → ℕ → ℕ
    at a b = mixed top (half w b) (half h a) (small_plane a b (λ i j. pos (green i j))) (small_plane a b (λ i j. pos (mosaic i j))) (r / 2) (c / 2)

    go : (s t : Bool) → (T s → r % 2 ≡ a) → (T t → c % 2 ≡ b) → cond (s && t) (at a b) (plane r c) ≡ cond (s && t) (at (r % 2) (c % 2)) (plane r c)
    go true true e f = λ m. at (sym (e tt) m) (sym (f tt) m)
    go true false e f = refl
    go false t e f = refl

-- red and blue places: the row and the column both have red's parity, or neither has
abbrev pub both_or_neither : Bool → Bool → Bool
both_or_neither true b = b
both_or_neither false b = not b

-- the update at any place
pub update-place : (top w h l : ℕ) (p : ℕ → ℕ → ℕ × ℕ) (r c : ℕ)
    → update top w h l p r c ≡ cond (both_or_neither (on_red_row l r) (on_red_column l c)) (own_mixed top w h (λ i j. (p i j).0) (λ i j. (p i j).1) r c) (p r c).1
unfolding update on_red_row on_red_column
update-place top w h l p r c =
    put_mixed_own top w h (red_row l) (red_column l) _ _ _ r c
    ∙ ap (cond (eqb (r % 2) (red_row l) && eqb (c % 2) (red_column l)) own) (put_mixed_own top w h (1 - red_row l) (1 - red_column l) _ _ _ r c)
    ∙ (λ m. cond (eqb (r % 2) (red_row l) && eqb (c % 2) (red_column l)) own (cond (other_parity r (red_row l) (row_lt l) m && other_parity c (red_column l) (column_lt l) m) own (p r c).1))
    ∙ pick (eqb (r % 2) (red_row l)) (eqb (c % 2) (red_column l))
  where
    own : ℕ
    own = own_mixed top w h (λ i j. (p i j).0) (λ i j. (p i j).1) r c

    pick : (a b : Bool) → cond (a && b) own (cond (not a && not b) own (p r c).1) ≡ cond (both_or_neither a b) own (p r c).1
    pick true true = refl
    pick true false = refl
    pick false true = refl
    pick false false = refl

-- ---- the updated green is a sample
pub update_bound : (top w h l : ℕ) (p : ℕ → ℕ → ℕ × ℕ) → ((r c : ℕ) → r < h → c < w → (p r c).1 ≤ top) → (r c : ℕ) → r < h → c < w → update top w h l p r c ≤ top
update_bound top w h l p b r c hr hc =
    subst (λ (n : ℕ). n ≤ top) (sym (update-place top w h l p r c))
    (cond_cases (both_or_neither (on_red_row l r) (on_red_column l c)) _ _ (λ n. n ≤ top) (λ t. unfold own_mixed in mixed_bound top _ _ _ _ _ _) (λ t. b r c hr hc))
