-- The sweep of two levels: what the rings hold before step t, one law for each stage, and that the plane is the projected one. Assumes nothing.
use mathlib.Core.Path.{◌≡◌, refl, ◌∙◌}
use mathlib.Core.List.{List}
use Prim.Native.Nat.{ℕ, ◌+◌, ◌*◌, ◌/◌, ◌%◌, ◌≤◌, ◌<◌}
use native.Mathlib.Nat.{mul-le-mul_right, le_trans}
use native.Mathlib.Omega.{arith}
use lib.IntN.{ℤ, nat_abs, ◌+ℤ◌, ◌-ℤ◌}
use lib.ListN.{length}
use Rattle.integers.specs.Lists.{overwrite}
use Rattle.integers.proofs.Lists.{length-overwrite, overwrite_cong}
use Rattle.integers.proofs.Bounds.{abs_add, abs_sub}
use Rattle.planes.proofs.Planes.{row_inside, column_inside}
use Rattle.filters.specs.Bank.{Distance, along, along_columns, low_split, low_join}
use Rattle.filters.proofs.Ranges.{gain, along_range}
use Rattle.lines.specs.Lines.{Run, Runs, padded}
use Rattle.lines.proofs.Lines.{three-along}
use Rattle.projection.specs.Fast.{difference}
use Rattle.projection.proofs.Parts.{apart_plane, together_plane, apart_plane_range, together_plane_range, along_inside, crossed_range, four}
use Rattle.details.specs.Details.{Triple, Crossing, crossed, from_place}
use Rattle.details.proofs.Details.{triple_padded}
use Rattle.nested_floor.specs.NestedFloor.{whole, rest, settled_two}
use Rattle.nested_floor.proofs.NestedFloor.{whole_small, rest_small}
use Rattle.merging.specs.Merging.{crossed_of}
use Rattle.rings.specs.declared.Given.{Given}
use Rattle.rings.specs.declared.Level.{Level}
use Rattle.rings.specs.Planes.{own_plane, guide_plane, reach, band_reach, Projectable}
use Rattle.rings.specs.Rows.{slot, row_at, five_slots, Sound, ring_line, RingRows, ring_apart, ring_together}
use Rattle.rings.specs.Stages.{reached, Working, row_laid, ring_row_laid}
use Rattle.rings.proofs.Rows.{laid_at, line_run}
use Rattle.rings.proofs.Rings.{Held, held_none, held_next, held_own, run_here, five_is, crossing_rows, crossed_is}
use Rattle.rings.proofs.Parts.{parts_ready, line_is, apart_next, together_next}
use Rattle.rings.proofs.Planes.{with_rows, with_none, with_all, row_ready, row_own, row_next}
use Rattle.second_level.specs.SecondLevel.{band_row, low_row, apart_row, together_row, rest_row, settled_row}
use Rattle.two_level_rows.specs.TwoLevels.{limits, with_projected}
use Rattle.two_level_rows.proofs.Sums.{band_plane, crossed_plane, merged_apart, merged_together, rest_plane, settled_plane, settled-projected}

-- the two levels of this sweep
abbrev pub first_level : Given → Level
first_level g = record { spacing = 1; limit = g.limit; source = 3; slots = 7; lag = 1 }

abbrev pub second_level : ℤ → Level
second_level second = record { spacing = 2; limit = second; source = 5; slots = 9; lag = 3 }

-- what the rings hold, list by list
pub record Rings : Type 0 where
  pub differences : List ℤ
  pub band : List ℤ
  pub apart1 : List ℤ
  pub together1 : List ℤ
  pub apart2 : List ℤ
  pub together2 : List ℤ
  pub apart : List ℤ
  pub together : List ℤ
  pub rests : List ℤ

-- what a sweep is given, with its numbers as the machine reads them
pub record Sides : Type 0 where
  pub given : Given
  pub second : ℤ
  pub least : ℤ
  pub most : ℤ
  pub own : List ℤ
  pub guide : List ℕ

module _ (v : Sides) where
  abbrev g : Given
  g = v.given

  abbrev second : ℤ
  second = v.second

  abbrev least : ℤ
  least = v.least

  abbrev most : ℤ
  most = v.most

  abbrev own : List ℤ
  own = v.own

  abbrev guide : List ℕ
  guide = v.guide

  abbrev w : ℕ
  w = g.width

  abbrev h : ℕ
  h = g.height

  -- ---- its planes: the differences, their band 1, each level's joined parts, both merged, the rests, and what they settle
  abbrev pub D : ℕ → ℕ → ℤ
  D = difference (own_plane g own) (guide_plane g guide)

  abbrev pub Band : ℕ → ℕ → ℤ
  Band = band_plane w h D

  abbrev pub A1 : ℕ → ℕ → ℤ
  A1 = apart_plane g.limit 1 w h D

  abbrev pub B1 : ℕ → ℕ → ℤ
  B1 = together_plane g.limit 1 w h D

  abbrev pub A2 : ℕ → ℕ → ℤ
  A2 = apart_plane second 2 w h Band

  abbrev pub B2 : ℕ → ℕ → ℤ
  B2 = together_plane second 2 w h Band

  abbrev Crossed : (ℤ → ℤ) → ℕ → ℕ → ℤ
  Crossed f = crossed_plane f second w h Band

  abbrev pub A : ℕ → ℕ → ℤ
  A = merged_apart (limits g second) w h D

  abbrev pub B : ℕ → ℕ → ℤ
  B = merged_together (limits g second) w h D

  abbrev pub R : ℕ → ℕ → ℤ
  R = rest_plane (limits g second) w h D

  abbrev pub P : ℕ → ℕ → ℤ
  P = settled_plane (limits g second) least most w h (own_plane g own) D

  -- ---- before step t
  pub record Swept (now : List ℤ) (x : Rings) (t : ℕ) : Type 0 where
    pub plane : now ≡ with_rows g own P (reached 9 h t)
    pub differences : Held g 3 0 x.differences D t
    pub bands : Held g 5 1 x.band Band t
    pub aparts1 : Held g 7 1 x.apart1 A1 t
    pub togethers1 : Held g 7 1 x.together1 B1 t
    pub aparts2 : Held g 9 3 x.apart2 A2 t
    pub togethers2 : Held g 9 3 x.together2 B2 t
    pub aparts : Held g 5 7 x.apart A t
    pub togethers : Held g 5 7 x.together B t
    pub rests : Held g 5 7 x.rests R t

  pub start : (x : Rings) → Swept own x 0
  start x = record {
    plane = with_none g own P 9;
    differences = held_none g 3 0;
    bands = held_none g 5 1;
    aparts1 = held_none g 7 1;
    togethers1 = held_none g 7 1;
    aparts2 = held_none g 9 3;
    togethers2 = held_none g 9 3;
    aparts = held_none g 5 7;
    togethers = held_none g 5 7;
    rests = held_none g 5 7;
  }

  module _ (p : Projectable g own guide) (q : Distance second) where
    -- the levels can be worked at
    pub first_sound : Sound (first_level g)
    first_sound = record { spacing = omega arith; limit = p.limit; source_from = omega arith; source_to = omega arith; slots_from = omega arith; slots_to = omega arith }

    pub second_sound : Sound (second_level second)
    second_sound = record { spacing = omega arith; limit = q; source_from = omega arith; source_to = omega arith; slots_from = omega arith; slots_to = omega arith }

    wide : 1 ≤ w
    wide = p.sizes.width_from

    tall : 1 ≤ h
    tall = p.sizes.height_from

    -- ---- how large the planes are
    d_small : (r c : ℕ) → r < h → c < w → nat_abs (D r c) ≤ reach
    unfolding difference
    d_small r c i j = p.near r c i j

    band_small : (r c : ℕ) → r < h → c < w → nat_abs (Band r c) ≤ band_reach
    unfolding band_plane along_columns
    band_small r c i j =
        le_trans (along_range low_split 1 w 524280 _ wide (λ k l. le_trans (along_range low_split 1 h reach (λ n. D n k) tall (λ n m. d_small n k m l) r) (omega (arith, mul-le-mul_right reach four.0))) c)
        (omega (arith, mul-le-mul_right 524280 four.0))

    a1_small : (r c : ℕ) → nat_abs (A1 r c) ≤ 50330880
    a1_small r c = apart_plane_range g.limit 1 w h D p.limit.sign reach wide tall d_small r c

    b1_small : (r c : ℕ) → nat_abs (B1 r c) ≤ 50330880
    b1_small r c = together_plane_range g.limit 1 w h D p.limit.sign reach wide tall d_small r c

    a2_small : (r c : ℕ) → nat_abs (A2 r c) ≤ 805306368
    a2_small r c = le_trans (apart_plane_range second 2 w h Band q.sign band_reach wide tall band_small r c) (omega arith)

    b2_small : (r c : ℕ) → nat_abs (B2 r c) ≤ 805306368
    b2_small r c = le_trans (together_plane_range second 2 w h Band q.sign band_reach wide tall band_small r c) (omega arith)

    twelve : gain low_join ≤ 12
    unfolding gain low_join
    twelve = omega arith

    wholes_small : (r c : ℕ) → nat_abs (Crossed whole r c) ≤ 9437184
    unfolding crossed_plane
    wholes_small r c = crossed_range 2 h r tall 786432 _ _ (λ k i. whole_small 786432 _ (a2_small k c)) (λ k i. whole_small 786432 _ (b2_small k c))

    rests_small : (r c : ℕ) → nat_abs (Crossed rest r c) ≤ 12276
    unfolding crossed_plane
    rests_small r c = crossed_range 2 h r tall 1023 _ _ (λ k i. rest_small _) (λ k i. rest_small _)

    low_small : (r c : ℕ) → nat_abs (along low_join 1 w (Crossed whole r) c) ≤ 113246208
    low_small r c = le_trans (along_range low_join 1 w 9437184 (Crossed whole r) wide (λ k l. wholes_small r k) c) (omega (arith, mul-le-mul_right 9437184 twelve))

    a_small : (r c : ℕ) → nat_abs (A r c) ≤ 163577856
    unfolding merged_apart
    a_small r c = omega (arith, abs_sub (A1 r c) (along low_join 1 w (Crossed whole r) c), a1_small r c, low_small r c)

    b_small : (r c : ℕ) → nat_abs (B r c) ≤ 163577856
    unfolding merged_together
    b_small r c = omega (arith, abs_add (B1 r c) (along low_join 1 w (Crossed whole r) c), b1_small r c, low_small r c)

    r_small : (r c : ℕ) → nat_abs (R r c) ≤ 174762
    unfolding rest_plane
    r_small r c = le_trans (along_range low_join 1 w 12276 (Crossed rest r) wide (λ k l. rests_small r k) c) (omega (arith, mul-le-mul_right 12276 twelve))

    module _ (t : ℕ) where
      -- ---- the first level's stage, and band 1's
      module _ {ring : List ℤ} (held : Held g 3 0 ring D (t + 1)) where
        pub first_ready : 3 * w ≤ length ring → Working 1 h t → RingRows g (first_level g) ring (reached 1 h t)
        first_ready room i = parts_ready g wide (first_level g) first_sound t 0 (omega arith) (omega arith) held i room (λ r c j k. le_trans (d_small r c j k) (omega arith))

        pub apart1_next : (x : List ℤ) → 7 * w ≤ length x → Held g 7 1 x A1 t → {x' : List ℤ} → x' ≡ ring_row_laid 7 1 g t x (ring_apart g (first_level g) ring) → Held g 7 1 x' A1 (t + 1)
        apart1_next = apart_next g wide (first_level g) first_sound t 0 (omega arith) (omega arith) held

        pub together1_next : (x : List ℤ) → 7 * w ≤ length x → Held g 7 1 x B1 t → {x' : List ℤ} → x' ≡ ring_row_laid 7 1 g t x (ring_together g (first_level g) ring) → Held g 7 1 x' B1 (t + 1)
        together1_next = together_next g wide (first_level g) first_sound t 0 (omega arith) (omega arith) held

        -- from the line that the first level left padded
        module _ (room : 3 * w ≤ length ring) (l : List ℤ) (fit : w + 8 ≤ length l) {line : List ℤ} (is : Working 1 h t → line ≡ padded w 1 (overwrite l 1 w (ring_line low_split g (first_level g) ring (reached 1 h t)))) where
          module _ (i : Working 1 h t) where
            Line : ℕ → ℤ
            Line = ring_line low_split g (first_level g) ring (reached 1 h t)

            laid : List ℤ
            laid = overwrite l 1 w Line

            narrow : 1 + w ≤ length l
            narrow = omega arith

            fit_laid : 1 + w + 1 ≤ length laid
            unfolding laid
            fit_laid = omega (arith, length-overwrite l 1 w Line narrow)

            pub band_ready : Triple 134217728 line 1 w
            unfolding laid Line
            band_ready = triple_padded 1 wide laid fit_laid (is i) (line_run g.limit p.limit.sign g (first_level g) (reached 1 h t) wide ring (first_ready room i) low_split four.0 l narrow refl)

            band_at : (c : ℕ) → c < w → band_row line (reached 1 h t) c ≡ Band (reached 1 h t) c
            unfolding laid Line band_plane low_split
            band_at c j =
                three-along 1 wide laid fit_laid (is i) low_split refl c j
                ∙ along_inside 1 w wide low_split (from_place 1 laid) _ (λ k b. laid_at l 1 w Line refl narrow k b ∙ line_is g wide (first_level g) first_sound t 0 (omega arith) (omega arith) held i low_split refl k b) c

          pub band_next : (x : List ℤ) → 5 * w ≤ length x → Held g 5 1 x Band t → {x' : List ℤ} → x' ≡ ring_row_laid 5 1 g t x (band_row line) → Held g 5 1 x' Band (t + 1)
          band_next x has ring q = held_next g 1 t 5 (omega arith) x has Band ring _ q (λ i c j. band_at i c j)

      -- ---- the second level's
      module _ {ring : List ℤ} (held : Held g 5 1 ring Band (t + 1)) where
        pub second_ready : 5 * w ≤ length ring → Working 3 h t → RingRows g (second_level second) ring (reached 3 h t)
        second_ready room i = parts_ready g wide (second_level second) second_sound t 1 (omega arith) (omega arith) held i room band_small

        pub apart2_next : (x : List ℤ) → 9 * w ≤ length x → Held g 9 3 x A2 t → {x' : List ℤ} → x' ≡ ring_row_laid 9 3 g t x (ring_apart g (second_level second) ring) → Held g 9 3 x' A2 (t + 1)
        apart2_next = apart_next g wide (second_level second) second_sound t 1 (omega arith) (omega arith) held

        pub together2_next : (x : List ℤ) → 9 * w ≤ length x → Held g 9 3 x B2 t → {x' : List ℤ} → x' ≡ ring_row_laid 9 3 g t x (ring_together g (second_level second) ring) → Held g 9 3 x' B2 (t + 1)
        together2_next = together_next g wide (second_level second) second_sound t 1 (omega arith) (omega arith) held

      -- ---- both merged
      module _ {a2 b2 : List ℤ} (held_a2 : Held g 9 3 a2 A2 (t + 1)) (held_b2 : Held g 9 3 b2 B2 (t + 1)) where
        module _ {a1 b1 : List ℤ} (held_a1 : Held g 7 1 a1 A1 (t + 1)) (held_b1 : Held g 7 1 b1 B1 (t + 1)) where
          pub merged_ready : 9 * w ≤ length a2 → 9 * w ≤ length b2 → 7 * w ≤ length a1 → 7 * w ≤ length b1 → Working 7 h t
              → Crossing 805306368 a2 b2 (five_slots 9 2 g (reached 7 h t)) w × Run 1073741824 a1 (slot 7 w (reached 7 h t)) w × Run 1073741824 b1 (slot 7 w (reached 7 h t)) w
          merged_ready room_a2 room_b2 room_a1 room_b1 i = (
            crossing_rows g 7 t i 9 3 4 (omega arith) (omega arith) (omega arith) held_a2 held_b2 room_a2 room_b2 805306368 (λ r c j k. a2_small r c) (λ r c j k. b2_small r c) 2 (omega arith),
            run_here g 7 t i 7 1 0 (omega arith) (omega arith) (omega arith) held_a1 room_a1 1073741824 (λ r c j k. le_trans (a1_small r c) (omega arith)),
            run_here g 7 t i 7 1 0 (omega arith) (omega arith) (omega arith) held_b1 room_b1 1073741824 (λ r c j k. le_trans (b1_small r c) (omega arith)),
          )

        low_at : (f : ℤ → ℤ) → Working 7 h t → (c : ℕ) → low_row f g a2 b2 (reached 7 h t) c ≡ along low_join 1 w (Crossed f (reached 7 h t)) c
        unfolding crossed_plane crossed_of
        low_at f i c = along_inside 1 w wide low_join _ _ (λ k j. crossed_is g 7 t i 9 3 4 (omega arith) (omega arith) (omega arith) held_a2 held_b2 f k j 2 (omega arith)) c

        pub merged_apart_next : {a1 : List ℤ} → Held g 7 1 a1 A1 (t + 1) → (x : List ℤ) → 5 * w ≤ length x → Held g 5 7 x A t → {x' : List ℤ} → x' ≡ ring_row_laid 5 7 g t x (apart_row g a1 a2 b2) → Held g 5 7 x' A (t + 1)
        unfolding merged_apart
        merged_apart_next held_a1 x room ring q = held_next g 7 t 5 (omega arith) x room A ring _ q (λ i c j. λ m. held_own g 7 t i 7 1 0 (omega arith) (omega arith) (omega arith) held_a1 c j m -ℤ low_at whole i c m)

        pub merged_together_next : {b1 : List ℤ} → Held g 7 1 b1 B1 (t + 1) → (x : List ℤ) → 5 * w ≤ length x → Held g 5 7 x B t → {x' : List ℤ} → x' ≡ ring_row_laid 5 7 g t x (together_row g b1 a2 b2) → Held g 5 7 x' B (t + 1)
        unfolding merged_together
        merged_together_next held_b1 x room ring q = held_next g 7 t 5 (omega arith) x room B ring _ q (λ i c j. λ m. held_own g 7 t i 7 1 0 (omega arith) (omega arith) (omega arith) held_b1 c j m +ℤ low_at whole i c m)

        pub rests_next : (x : List ℤ) → 5 * w ≤ length x → Held g 5 7 x R t → {x' : List ℤ} → x' ≡ ring_row_laid 5 7 g t x (rest_row g a2 b2) → Held g 5 7 x' R (t + 1)
        unfolding rest_plane
        rests_next x room ring q = held_next g 7 t 5 (omega arith) x room R ring _ q (λ i c j. low_at rest i c)

      -- ---- the last stage
      module _ {now a b s : List ℤ} (is : now ≡ with_rows g own P (reached 9 h t)) (held_a : Held g 5 7 a A (t + 1)) (held_b : Held g 5 7 b B (t + 1)) (held_s : Held g 5 7 s R (t + 1)) where
        pub settled_ready : 5 * w ≤ length a → 5 * w ≤ length b → 5 * w ≤ length s → Working 9 h t
            → Run reach now (row_at g (reached 9 h t)) w × Crossing 163577856 a b (five_slots 5 1 g (reached 9 h t)) w × Runs 174762 s (five_slots 5 1 g (reached 9 h t)) w
        settled_ready room_a room_b room_s i =
            let z = crossing_rows g 9 t i 5 7 2 (omega arith) (omega arith) (omega arith) held_s held_s room_s room_s 174762 (λ r c j k. r_small r c) (λ r c j k. r_small r c) 1 (omega arith) in (
              row_ready g own P guide p 9 t is i,
              crossing_rows g 9 t i 5 7 2 (omega arith) (omega arith) (omega arith) held_a held_b room_a room_b 163577856 (λ r c j k. a_small r c) (λ r c j k. b_small r c) 1 (omega arith),
              record { first = z.first; second = z.second; third = z.third; fourth = z.fourth; fifth = z.fifth },
            )

        pub settled_next : {out : List ℤ} → out ≡ row_laid 9 g t now (row_at g (reached 9 h t)) (settled_row g least most now a b s (reached 9 h t)) → out ≡ with_rows g own P (reached 9 h (t + 1))
        unfolding settled_row settled_plane crossed
        settled_next e =
            row_next g own P guide p 9 t is _ e (λ i c j. λ m.
            settled_two least most (row_own g own P guide p 9 t is c m)
            (crossed_is g 9 t i 5 7 2 (omega arith) (omega arith) (omega arith) held_a held_b (λ z. z) c j 1 (omega arith) m)
            (five_is g 9 t i 5 7 2 (omega arith) (omega arith) (omega arith) held_s c j low_join 1 (omega arith) m))

  -- ---- the settled plane is the projected plane
  pub all_projected : Projectable g own guide → {now : List ℤ} (t : ℕ) → h + 9 ≤ t → now ≡ with_rows g own P (reached 9 h t) → now ≡ with_projected g second least most own guide
  unfolding with_projected
  all_projected p t le is =
      with_all g own P 9 t le is
      ∙ overwrite_cong own g.at (w * h) _ _ (λ k b. settled-projected (limits g second) least most w h p.sizes.width_from p.sizes.height_from (guide_plane g guide) (own_plane g own) (k / w) (k % w) (row_inside w h k b) (column_inside w h k b))
