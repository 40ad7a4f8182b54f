-- The sweep: what the rings hold before step t, one law for each stage, and that the plane is the projected one. Assumes nothing.
use mathlib.Core.Path.{◌≡◌, sym, ◌∙◌, ap}
use mathlib.Core.List.{List}
use Prim.Native.Nat.{ℕ, ◌+◌, ◌*◌, ◌/◌, ◌%◌, ◌≤◌, ◌<◌}
use native.Mathlib.Nat.{le_trans}
use native.Mathlib.Omega.{arith}
use lib.IntN.{ℤ, pos, nat_abs, ◌-ℤ◌, ◌*ℤ◌}
use lib.ListN.{length}
use Rattle.integers.proofs.Lists.{overwrite_cong}
use Rattle.planes.proofs.Planes.{row_inside, column_inside}
use Rattle.filters.specs.Bank.{rescaled}
use Rattle.lines.specs.Lines.{Run}
use Rattle.projection.specs.Projection.{projected}
use Rattle.projection.specs.Fast.{difference, crossed_along}
use Rattle.projection.proofs.Projection.{held_sum_fast}
use Rattle.projection.proofs.Parts.{apart_plane, together_plane, apart_plane_range, together_plane_range, crossed_parts}
use Rattle.details.specs.Details.{Crossing, crossed, settled}
use Rattle.rings.specs.declared.Given.{Given}
use Rattle.rings.specs.declared.Level.{Level}
use Rattle.rings.specs.Planes.{own_plane, guide_plane, reach, Projectable}
use Rattle.rings.specs.Rows.{row_at, five_slots, Sound, RingRows, ring_apart, ring_together}
use Rattle.rings.specs.Stages.{reached, Working, row_laid, ring_row_laid}
use Rattle.rings.proofs.Rings.{Held, held_none, crossing_rows, crossed_is}
use Rattle.rings.proofs.Parts.{parts_ready, apart_next, together_next}
use Rattle.rings.proofs.Planes.{with_rows, with_none, with_all, row_ready, row_own, row_next}
use Rattle.sweep.specs.Sweep.{settled_row, with_projected}

-- the one level of this sweep, whose joined parts go to rings of n slots
abbrev pub level_of : Given → ℕ → Level
level_of g n = record { spacing = 1; limit = g.limit; source = 3; slots = n; lag = 1 }

module _ (g : Given) (least most : ℤ) (own : List ℤ) (guide : List ℕ) where
  abbrev w : ℕ
  w = g.width

  abbrev h : ℕ
  h = g.height

  -- ---- its planes: the differences, their joined parts, and what those settle
  abbrev D : ℕ → ℕ → ℤ
  D = difference (own_plane g own) (guide_plane g guide)

  abbrev A : ℕ → ℕ → ℤ
  A = apart_plane g.limit 1 w h D

  abbrev B : ℕ → ℕ → ℤ
  B = together_plane g.limit 1 w h D

  unfoldable pub settled_plane : ℕ → ℕ → ℤ
  settled_plane r c = settled least most (own_plane g own r c) (crossed_along 1 h (λ i. A i c) (λ i. B i c) r)

  -- ---- before step t
  pub record Swept (now ring apart together : List ℤ) (t : ℕ) : Type 0 where
    pub plane : now ≡ with_rows g own settled_plane (reached 3 h t)
    pub differences : Held g 3 0 ring D t
    pub aparts : Held g 5 1 apart A t
    pub togethers : Held g 5 1 together B t

  pub start : (ring apart together : List ℤ) → Swept own ring apart together 0
  start ring apart together = record { plane = with_none g own settled_plane 3; differences = held_none g 3 0; aparts = held_none g 5 1; togethers = held_none g 5 1 }

  module _ (p : Projectable g own guide) (t : ℕ) where
    -- the level can be worked at
    pub sound : (n : ℕ) → 1 ≤ n → n ≤ 9 → Sound (level_of g n)
    sound n from to = record { spacing = omega arith; limit = p.limit; source_from = omega arith; source_to = omega arith; slots_from = from; slots_to = to }

    -- in rings of five slots
    five : Sound (level_of g 5)
    five = sound 5 (omega arith) (omega arith)

    d_small : (r c : ℕ) → r < h → c < w → nat_abs (D r c) ≤ reach
    unfolding difference
    d_small r c i j = p.near r c i j

    -- ---- the level's stage
    module _ {ring : List ℤ} (held : Held g 3 0 ring D (t + 1)) where
      pub rows_ready : (n : ℕ) → 1 ≤ n → n ≤ 9 → 3 * w ≤ length ring → Working 1 h t → RingRows g (level_of g n) ring (reached 1 h t)
      rows_ready n from to room i = parts_ready g p.sizes.width_from (level_of g n) (sound n from to) t 0 (omega arith) (omega arith) held i room (λ r c j k. le_trans (d_small r c j k) (omega arith))

      pub aparts_next : (x : List ℤ) → 5 * w ≤ length x → Held g 5 1 x A t → {x' : List ℤ} → x' ≡ ring_row_laid 5 1 g t x (ring_apart g (level_of g 5) ring) → Held g 5 1 x' A (t + 1)
      aparts_next = apart_next g p.sizes.width_from (level_of g 5) five t 0 (omega arith) (omega arith) held

      pub togethers_next : (x : List ℤ) → 5 * w ≤ length x → Held g 5 1 x B t → {x' : List ℤ} → x' ≡ ring_row_laid 5 1 g t x (ring_together g (level_of g 5) ring) → Held g 5 1 x' B (t + 1)
      togethers_next = together_next g p.sizes.width_from (level_of g 5) five t 0 (omega arith) (omega arith) held

    -- ---- the last stage
    module _ {now apart together : List ℤ} (is : now ≡ with_rows g own settled_plane (reached 3 h t)) (aparts : Held g 5 1 apart A (t + 1)) (togethers : Held g 5 1 together B (t + 1)) where
      pub settled_ready : 5 * w ≤ length apart → 5 * w ≤ length together → Working 3 h t
          → Run reach now (row_at g (reached 3 h t)) w × Crossing 134217728 apart together (five_slots 5 1 g (reached 3 h t)) w
      settled_ready room_a room_b i = (
        row_ready g own settled_plane guide p 3 t is i,
        crossing_rows g 3 t i 5 1 2 (omega arith) (omega arith) (omega arith) aparts togethers room_a room_b 134217728
            (λ r c j k. le_trans (apart_plane_range g.limit 1 w h D p.limit.sign reach p.sizes.width_from p.sizes.height_from d_small r c) (omega arith))
            (λ r c j k. le_trans (together_plane_range g.limit 1 w h D p.limit.sign reach p.sizes.width_from p.sizes.height_from d_small r c) (omega arith)) 1 (omega arith),
      )

      pub settled_next : {out : List ℤ} → out ≡ row_laid 3 g t now (row_at g (reached 3 h t)) (settled_row g least most now apart together (reached 3 h t)) → out ≡ with_rows g own settled_plane (reached 3 h (t + 1))
      unfolding settled_row settled_plane crossed
      settled_next q =
          row_next g own settled_plane guide p 3 t is _ q (λ i c j. λ m.
          settled least most (row_own g own settled_plane guide p 3 t is c m) (crossed_is g 3 t i 5 1 2 (omega arith) (omega arith) (omega arith) aparts togethers (λ z. z) c j 1 (omega arith) m))

  -- ---- the settled plane is the projected plane
  pub all_projected : Projectable g own guide → {now : List ℤ} (t : ℕ) → h + 3 ≤ t → now ≡ with_rows g own settled_plane (reached 3 h t) → now ≡ with_projected g least most own guide
  unfolding with_projected
  all_projected p t le is = with_all g own settled_plane 3 t le is ∙ overwrite_cong own g.at (w * h) _ _ (λ k b. projected_at (k / w) (k % w) (row_inside w h k b) (column_inside w h k b))
    where
      projected_at : (r c : ℕ) → r < h → c < w → settled_plane r c ≡ projected g.limit least most w h (guide_plane g guide) (own_plane g own) r c
      projected_at r c i j = unfold settled_plane settled projected in
          ap (rescaled 1024 least most)
          (ap (λ z. pos 1024 *ℤ own_plane g own r c -ℤ z) (crossed_parts g.limit 1 w h D r c) ∙ sym (held_sum_fast w h p.sizes.width_from p.sizes.height_from g.limit 1 (guide_plane g guide) (own_plane g own) r c i j))
