-- A colour's places in lists: what is gathered from them and put back, and why the second colour still reads the first estimate.
-- Assumes nothing.
use mathlib.Core.Path.{◌≡◌, refl, sym, ◌∙◌, ap, subst}
use mathlib.Core.Bool.{Bool, true, false, cond, ◌&&◌}
use mathlib.Core.List.{List}
use Prim.Native.Nat.{ℕ, ◌+◌, ◌*◌, ◌/◌, ◌%◌, ◌≤◌, ◌<◌}
use native.Mathlib.Nat.{div-add-mod'}
use native.Mathlib.Omega.{arith}
use lib.Arith.{digits_div, digits_mod}
use lib.Dec.{T, eqb, eqb→eq}
use lib.IntN.{ℤ, pos, nat_abs}
use lib.ListN.{get_or, length}
use borrow.Author.Tests.{ne_eqb}
use Rattle.integers.specs.Lists.{overwrite}
use Rattle.integers.proofs.Tests.{and_left}
use Rattle.integers.proofs.Bounds.{abs_sub}
use Rattle.integers.proofs.Clamping.{clamp-sample}
use Rattle.integers.proofs.Lists.{tabulate_cong, tabulate-get_or, length-overwrite, overwrite_in, overwrite_cong, overwrite_again}
use Rattle.planes.specs.Planes.{listing, plane_of, Agree}
use Rattle.planes.specs.Lists.{value, sample, put}
use Rattle.planes.specs.Places.{half, place}
use Rattle.planes.proofs.Planes.{sized, row_inside, column_inside, plane_of-listing, listing_agree}
use Rattle.std.proofs.lemmas.Nat.{mul-add-lt}
use Rattle.planes.proofs.Places.{length-put, second_inside, small_inside, row-place, small_place, nearer_in_list, put-colour}
use Rattle.filters.specs.Bank.{Distance}
use Rattle.projection.specs.Projection.{projected}
use Rattle.projection.proofs.Projection.{projected_agrees}
use Rattle.rings.specs.declared.Given.{Given}
use Rattle.rings.specs.Planes.{own_plane, guide_plane, Projectable}
use Rattle.sweep.specs.Sweep.{with_projected}
use Rattle.work_buffer.specs.Buffer.{with_plane, Narrow, Workable}
use Rattle.work_buffer.specs.Places.{places_of}
use Rattle.work_buffer.specs.declared.Places.{Places}
use Rattle.work_buffer.proofs.Buffer.{with_plane_at, narrow_plane}
use Rattle.update.specs.Update.{small_plane, mixed, put_mixed}
use Rattle.update.specs.Places.{small_mixed, with_mixed}
use Rattle.update.proofs.Mixing.{mixed-projected, mixed_bound, own_mixed, put_mixed_own}

-- ---- what is projected
-- is what is mixed, with the limit 0
projected-mixed : (top w h : ℕ) (green colour : ℕ → ℕ → ℤ) (r c : ℕ) → projected (pos 0) (pos 0) (pos top) w h colour green r c ≡ pos (mixed top w h green colour r c)
unfolding projected
projected-mixed top w h green colour r c = sym (clamp-sample top _).1 ∙ ap pos (sym (mixed-projected top w h green colour r c))

-- ---- a colour's places
-- the guide is the small plane
guide_small : (w a b : ℕ) (s : List ℕ) (i j : ℕ) → pos (get_or s (a * w + b + i * (2 * w) + j * 2) 0) ≡ small_plane a b (λ r c. pos (plane_of 0 w s r c)) i j
unfolding small_plane plane_of
guide_small w a b s i j = ap (λ (n : ℕ). pos (get_or s n 0)) (same (small_place w a b i j))
  where
    same : a * w + b + i * (2 * w) + 2 * j ≡ (2 * i + a) * w + (2 * j + b) → a * w + b + i * (2 * w) + j * 2 ≡ (2 * i + a) * w + (2 * j + b)
    same e = omega (arith, e)

module _ (w h a b : ℕ) (ha : a < 2) (hb : b < 2) where
  -- the small plane's sizes
  abbrev columns : ℕ
  columns = half w b

  abbrev rows : ℕ
  rows = half h a

  -- and where it stands in a list
  abbrev at_place : ℕ → ℕ
  at_place = place (a * w + b) (2 * w) columns

  -- what the projection is given, of a guide that stands where it may
  abbrev given : ℕ → ℕ → ℕ → ℤ → Given
  given from down across limit = record { at = 0; from = from; down = down; across = across; width = columns; height = rows; limit = limit }

  -- ---- the work buffer
  module _ (mosaic green : List ℕ) (work : List ℤ) (room : columns * rows ≤ length work) where
    module _ {p : Places} (is : p ≡ places_of w h a b) {gathered : List ℤ} (laid : gathered ≡ overwrite work 0 (p.columns * p.rows) (λ k. sample green (place p.from p.down p.columns k))) where
      e : gathered ≡ overwrite work 0 (columns * rows) (λ k. sample green (at_place k))
      e = laid ∙ ap (λ (q : Places). overwrite work 0 (q.columns * q.rows) (λ k. sample green (place q.from q.down q.columns k))) is

      -- the gathered numbers are green's small plane
      gathered_small : Agree columns rows (λ i j. value gathered (0 + (i * columns + j))) (small_plane a b (λ r c. pos (plane_of 0 w green r c)))
      unfolding sample
      gathered_small i j hi hj =
          ap (λ (l : List ℤ). value l (0 + (i * columns + j))) e
          ∙ overwrite_in work 0 (columns * rows) (λ k. sample green (at_place k)) (i * columns + j) (pos 0) (omega arith) (mul-add-lt _ _ _ _ hi hj)
          ∙ ap (λ (n : ℕ). pos (get_or green n 0)) (row-place (a * w + b) (2 * w) columns i j hj ∙ small_place w a b i j)
          ∙ (unfold small_plane plane_of in refl)

      -- they may be projected
      small_projectable : Workable w h mosaic green (length work) → ((k : ℕ) → get_or mosaic k 0 ≤ 65535) → ((k : ℕ) → get_or green k 0 ≤ 65535) → (from down across : ℕ) (limit : ℤ) → from ≤ a * w + b → down ≤ 2 * w → across ≤ 2 → Distance limit
          → Projectable (given from down across limit) gathered mosaic
      unfolding own_plane guide_plane sample half
      small_projectable u sm sg from down across limit p q r distance = record {
        sizes = sized (omega (arith, u.sizes.width_from)) (omega (arith, u.sizes.width_to)) (omega (arith, u.sizes.height_from)) (omega (arith, u.sizes.height_to));
        limit = distance;
        inside = omega (arith, room, ap length e, length-overwrite work 0 (columns * rows) (λ k. sample green (at_place k)) (omega arith));
        small = λ k hk. omega (arith, bound k hk);
        guide_inside = λ i j hi hj. omega (arith, nearer_in_list w h a b ha hb from down across i j p q r hi hj, u.samples);
        near = λ i j hi hj. omega (arith, abs_sub (value gathered (0 + (i * columns + j))) (pos (get_or mosaic (from + i * down + j * across) 0)), bound (i * columns + j) (mul-add-lt _ _ _ _ hi hj), sm (from + i * down + j * across));
      }
        where
          bound : (k : ℕ) → k < columns * rows → nat_abs (value gathered (0 + k)) ≤ 65535
          bound k hk = subst (λ (z : ℤ). nat_abs z ≤ 65535) (sym (ap (λ (l : List ℤ). value l (0 + k)) e ∙ overwrite_in work 0 (columns * rows) (λ k. sample green (at_place k)) k (pos 0) (omega arith) hk)) (sg (at_place k))

      -- as the code has their sizes
      pub projectable : Workable w h mosaic green (length work) → ((k : ℕ) → get_or mosaic k 0 ≤ 65535) → ((k : ℕ) → get_or green k 0 ≤ 65535) → (from down across : ℕ) (limit : ℤ) → from ≤ a * w + b → down ≤ 2 * w → across ≤ 2 → Distance limit
          → Projectable (record { at = 0; from = from; down = down; across = across; width = p.columns; height = p.rows; limit = limit }) gathered mosaic
      projectable u sm sg from down across limit f d s distance =
          subst (λ (q : Places). Projectable (record { at = 0; from = from; down = down; across = across; width = q.columns; height = q.rows; limit = limit }) gathered mosaic) (sym is)
          (small_projectable u sm sg from down across limit f d s distance)

      -- the projection leaves what is to be put
      pub mixed_laid : (top : ℕ) {limit least most : ℤ} → limit ≡ pos 0 → least ≡ pos 0 → most ≡ pos top → {left : List ℤ}
          → left ≡ with_projected (record { at = 0; from = p.from; down = p.down; across = 2; width = p.columns; height = p.rows; limit = limit }) least most gathered mosaic → left ≡ with_mixed top w h a b mosaic green work
      unfolding with_projected with_mixed with_plane small_mixed own_plane guide_plane
      mixed_laid top zero floor ceiling q =
          q ∙ (λ i. with_projected (record { at = 0; from = (is i).from; down = (is i).down; across = 2; width = (is i).columns; height = (is i).rows; limit = zero i }) (floor i) (ceiling i) gathered mosaic)
          ∙ overwrite_cong gathered 0 (columns * rows) _ new (λ k hk. at (k / columns) (k % columns) (row_inside columns rows k hk) (column_inside columns rows k hk))
          ∙ ap (λ (l : List ℤ). overwrite l 0 (columns * rows) new) e ∙ overwrite_again (pos 0) work 0 (columns * rows) (columns * rows) _ new (omega arith) (omega arith)
        where
          new : ℕ → ℤ
          new k = pos (small_mixed top w h a b mosaic green (k / columns) (k % columns))

          own : ℕ → ℕ → ℤ
          own = small_plane a b (λ r c. pos (plane_of 0 w green r c))

          colour : ℕ → ℕ → ℤ
          colour = small_plane a b (λ r c. pos (plane_of 0 w mosaic r c))

          at : (i j : ℕ) → i < rows → j < columns
              → projected (pos 0) (pos 0) (pos top) columns rows (λ r c. pos (get_or mosaic (a * w + b + r * (2 * w) + c * 2) 0)) (λ r c. value gathered (0 + (r * columns + c))) i j ≡ pos (mixed top columns rows own colour i j)
          at i j hi hj =
              projected_agrees (pos 0) (pos 0) (pos top) columns rows _ colour _ own (λ r c hr hc. guide_small w a b mosaic r c) gathered_small i j hi hj
              ∙ projected-mixed top columns rows own colour i j

    module _ (top : ℕ) {p : Places} (is : p ≡ places_of w h a b) {laid : List ℤ} (e : laid ≡ with_mixed top w h a b mosaic green work) where
      -- its numbers, one by one
      laid_at : (k : ℕ) → k < columns * rows → value laid k ≡ pos (small_mixed top w h a b mosaic green (k / columns) (k % columns))
      unfolding with_mixed
      laid_at k hk = ap (λ (l : List ℤ). value l k) e ∙ with_plane_at columns rows work room (λ i j. pos (small_mixed top w h a b mosaic green i j)) k hk

      -- they are samples
      small_bound : (r c : ℕ) → small_mixed top w h a b mosaic green r c ≤ top
      unfolding small_mixed
      small_bound r c = mixed_bound top columns rows _ _ r c

      pub mixed_narrow : top ≤ 65535 → Narrow laid 0 (p.columns * p.rows)
      unfolding with_mixed
      mixed_narrow few = subst (λ (q : Places). Narrow laid 0 (q.columns * q.rows)) (sym is) (narrow_plane columns rows work room (λ i j. pos (small_mixed top w h a b mosaic green i j)) e (λ r c hr hc. (tt, omega (arith, small_bound r c, few))))

      -- put back, they are the update of these places
      pub green_laid : {after : List ℕ} → length green ≡ w * h → after ≡ put green (p.columns * p.rows) (place p.from p.down p.columns) (λ k. nat_abs (value laid k))
          → after ≡ listing w h (put_mixed top w h a b (plane_of 0 w mosaic) (plane_of 0 w green) (plane_of 0 w green))
      unfolding listing put_mixed
      green_laid {after} long put_back =
          sym (tabulate-get_or after (w * h) 0 (ap length q ∙ length-put green (columns * rows) at_place _ ∙ long))
          ∙ tabulate_cong (w * h) _ _ (λ k hk. ap (λ (l : List ℕ). get_or l k 0) q ∙ put-colour w h a b ha hb 0 green (λ j. nat_abs (value laid j)) new there k hk (omega (arith, long)) ∙ ap (cond (eqb (k / w % 2) a && eqb (k % w % 2) b) (new (k / w) (k % w))) (kept k))
        where
          q : after ≡ put green (columns * rows) at_place (λ k. nat_abs (value laid k))
          q = put_back ∙ ap (λ (x : Places). put green (x.columns * x.rows) (place x.from x.down x.columns) (λ k. nat_abs (value laid k))) is

          new : ℕ → ℕ → ℕ
          new r c = mixed top columns rows (small_plane a b (λ i j. pos (plane_of 0 w green i j))) (small_plane a b (λ i j. pos (plane_of 0 w mosaic i j))) (r / 2) (c / 2)

          there : (i j : ℕ) → i < rows → j < columns → nat_abs (value laid (i * columns + j)) ≡ new (2 * i + a) (2 * j + b)
          there i j hi hj =
              ap nat_abs (laid_at (i * columns + j) (mul-add-lt _ _ _ _ hi hj)) ∙ (λ m. small_mixed top w h a b mosaic green (digits_div i hj m) (digits_mod i hj m))
              ∙ (unfold small_mixed in (λ m. mixed top columns rows (small_plane a b (λ i j. pos (plane_of 0 w green i j))) (small_plane a b (λ i j. pos (plane_of 0 w mosaic i j))) (row-half m) (column_half m)))
            where
              row-half : i ≡ (2 * i + a) / 2
              row-half = omega arith

              column_half : j ≡ (2 * j + b) / 2
              column_half = omega arith

          kept : (k : ℕ) → get_or green k 0 ≡ plane_of 0 w green (k / w) (k % w)
          kept k = unfold plane_of in ap (λ (n : ℕ). get_or green n 0) (sym (div-add-mod' k w))

-- ---- the second colour, after the first
-- mixed planes agree where their planes do
mixed_agrees : (top w h : ℕ) (green green' colour : ℕ → ℕ → ℤ) → Agree w h green green' → Agree w h (mixed top w h green colour) (mixed top w h green' colour)
mixed_agrees top w h green green' colour e r c hr hc =
    mixed-projected top w h green colour r c
    ∙ ap nat_abs (projected_agrees (pos 0) (pos 0) (pos top) w h colour colour green green' (λ i j hi hj. refl) e r c hr hc)
    ∙ sym (mixed-projected top w h green' colour r c)

-- a row of another parity is as it was
put_elsewhere : (top w h a b : ℕ) (mosaic green plane : ℕ → ℕ → ℕ) (r c : ℕ) → (r % 2 ≡ a → ⊥) → put_mixed top w h a b mosaic green plane r c ≡ plane r c
put_elsewhere top w h a b mosaic green plane r c n =
    put_mixed_own top w h a b mosaic green plane r c ∙ ap (λ (t : Bool). cond (t && eqb (c % 2) b) (own_mixed top w h mosaic green r c) (plane r c)) (ne_eqb (r % 2) a n)

-- So the second colour's places, put into the list that the first left, are put from the first estimate.
pub second_colour : (top w h a b other column : ℕ) → (a ≡ other → ⊥) → (mosaic : ℕ → ℕ → ℕ) (green : ℕ → ℕ → ℕ) {first : List ℕ}
    → first ≡ listing w h (put_mixed top w h other column mosaic green green)
    → listing w h (put_mixed top w h a b mosaic (plane_of 0 w first) (plane_of 0 w first)) ≡ listing w h (put_mixed top w h a b mosaic green (put_mixed top w h other column mosaic green green))
second_colour top w h a b other column n mosaic green {first} e = listing_agree w h same
  where
    between : ℕ → ℕ → ℕ
    between = put_mixed top w h other column mosaic green green

    held : Agree w h (plane_of 0 w first) between
    held r c hr hc = ap (λ (l : List ℕ). plane_of 0 w l r c) e ∙ plane_of-listing 0 w h between r c hr hc

    either : (t : Bool) {x x' y y' : ℕ} → (T t → x ≡ x') → y ≡ y' → cond t x y ≡ cond t x' y'
    either true f g = f tt
    either false f g = g

    same : Agree w h (put_mixed top w h a b mosaic (plane_of 0 w first) (plane_of 0 w first)) (put_mixed top w h a b mosaic green between)
    same r c hr hc =
        put_mixed_own top w h a b mosaic (plane_of 0 w first) (plane_of 0 w first) r c
        ∙ either (eqb (r % 2) a && eqb (c % 2) b) (λ t. own (eqb→eq (r % 2) a (and_left (eqb (r % 2) a) (eqb (c % 2) b) t))) (held r c hr hc)
        ∙ sym (put_mixed_own top w h a b mosaic green between r c)
      where
        own : r % 2 ≡ a → own_mixed top w h mosaic (plane_of 0 w first) r c ≡ own_mixed top w h mosaic green r c
        own x = unfold own_mixed small_plane in mixed_agrees top (half w (c % 2)) (half h (r % 2)) _ _ _
            (λ i j hi hj. ap pos (held (2 * i + r % 2) (2 * j + c % 2) (second_inside h (r % 2) i (omega arith) hi) (second_inside w (c % 2) j (omega arith) hj) ∙ put_elsewhere top w h other column mosaic green green (2 * i + r % 2) (2 * j + c % 2) (λ y. n (sym x ∙ omega arith))))
            (r / 2) (c / 2) (small_inside h r hr) (small_inside w c hc)
