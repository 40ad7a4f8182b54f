-- A plane that is rewritten row after row, in the list where it stands: rows that are not reached yet are as they were, so that the differences
-- are the first plane's. Assumes nothing.
use mathlib.Core.Path.{◌≡◌, refl, sym, ◌∙◌, ap, subst}
use mathlib.Core.List.{List}
use Prim.Native.Nat.{ℕ, ◌+◌, ◌*◌, ◌/◌, ◌%◌, ◌≤◌, ◌<◌}
use native.Mathlib.Decide.{dec_lt}
use native.Mathlib.Nat.{mul_comm, mul-le-mul_right, zero-mul}
use native.Mathlib.Omega.{arith}
use lib.IntN.{ℤ, pos, nat_abs, ◌-ℤ◌}
use lib.ListN.{length, get_or}
use Rattle.integers.specs.Lists.{overwrite}
use Rattle.integers.proofs.Lists.{length-overwrite, overwrite-after, overwrite_none}
use Rattle.planes.specs.Lists.{InRow, value}
use Rattle.planes.proofs.Planes.{row_room, overwrite-row}
use Rattle.std.proofs.lemmas.Nat.{mul-add-lt}
use Rattle.lines.specs.Lines.{Run}
use Rattle.projection.specs.Fast.{difference}
use Rattle.details.specs.Details.{difference_line, guide_value}
use Rattle.rings.specs.declared.Given.{Given}
use Rattle.rings.specs.Planes.{own_plane, guide_plane, reach, Projectable}
use Rattle.rings.specs.Rows.{row_at, guide_at, difference_row}
use Rattle.rings.specs.Stages.{reached, Working, row_laid, ring_row_laid}
use Rattle.rings.proofs.Stages.{at_row, reached_next, one_row, no_row}
use Rattle.rings.proofs.Rings.{Held, held_next}

-- its rows become those of `new`
module _ (g : Given) (own : List ℤ) (new : ℕ → ℕ → ℤ) where
  abbrev at : ℕ
  at = g.at

  abbrev w : ℕ
  w = g.width

  abbrev h : ℕ
  h = g.height

  -- n rows of it, laid down in the list
  abbrev pub with_rows : ℕ → List ℤ
  with_rows n = overwrite own at (n * w) (λ k. new (k / w) (k % w))

  pub with_none : (lag : ℕ) → own ≡ with_rows (reached lag h 0)
  with_none lag =
      overwrite_none own at _ ∙ ap (λ (n : ℕ). overwrite own at n (λ k. new (k / w) (k % w))) (sym (zero-mul w))
      ∙ ap with_rows (let e : 0 ≡ reached lag h 0 = omega arith in e)

  -- and all of them
  pub with_all : {now : List ℤ} (lag t : ℕ) → h + lag ≤ t → now ≡ with_rows (reached lag h t) → now ≡ overwrite own at (w * h) (λ k. new (k / w) (k % w))
  with_all lag t le is = is ∙ ap with_rows (let e : reached lag h t ≡ h = omega arith in e) ∙ ap (λ (n : ℕ). overwrite own at n (λ k. new (k / w) (k % w))) (mul_comm h w)

  module _ (guide : List ℕ) (p : Projectable g own guide) where
    -- how far the plane is from its guide
    abbrev D : ℕ → ℕ → ℤ
    D = difference (own_plane g own) (guide_plane g guide)

    area : (r : ℕ) → r < h → at + (r * w + w) ≤ length own
    area r i = omega (arith, p.inside, row_room w h r i)

    rows_area : (n : ℕ) → n ≤ h → at + n * w ≤ length own
    rows_area n i = omega (arith, p.inside, mul-le-mul_right w i, mul_comm w h)

    -- ---- a row that is not reached yet is as it was
    module _ {now : List ℤ} {n : ℕ} (le : n ≤ h) (is : now ≡ with_rows n) where
      long : length now ≡ length own
      long = ap length is ∙ length-overwrite own at (n * w) _ (rows_area n le)

      pub untouched : (r c : ℕ) → n ≤ r → value now (row_at g r + c) ≡ own_plane g own r c
      unfolding own_plane
      untouched r c i =
          ap (λ (x : List ℤ). value x (row_at g r + c)) is ∙ overwrite-after own at (n * w) _ (row_at g r + c) (pos 0) (rows_area n le) (omega (arith, mul-le-mul_right w i))
          ∙ ap (value own) place
        where
          place : row_at g r + c ≡ at + (r * w + c)
          place = omega arith

      pub own_row : (r : ℕ) → n ≤ r → r < h → Run reach now (row_at g r) w
      unfolding own_plane
      own_row r i j = record {
        inside = omega (arith, long, area r j);
        small = λ c k. subst (λ (z : ℤ). nat_abs z ≤ reach) (sym (untouched r c i)) (p.small (r * w + c) (mul-add-lt _ _ _ _ j k));
      }

      -- so its differences are the plane's
      difference_at : (r c : ℕ) → n ≤ r → difference_row g now guide r c ≡ D r c
      unfolding difference_line guide_value difference guide_plane
      difference_at r c i = ap (λ z. z -ℤ pos (get_or guide (g.from + r * g.down + c * g.across) 0)) (untouched r c i)

    -- ---- a step, with the rows of a stage that lags laid down already
    module _ (lag t : ℕ) {now : List ℤ} (is : now ≡ with_rows (reached lag h t)) where
      laid : reached lag h t ≤ h
      laid = omega arith

      behind : reached lag h t ≤ reached 0 h t
      behind = omega arith

      -- the stage of differences
      pub difference_ready : Working 0 h t → Run reach now (row_at g (reached 0 h t)) w × InRow guide (guide_at g (reached 0 h t)) w g.across
      difference_ready i = let j = (at_row 0 h t i).1 in (own_row laid is (reached 0 h t) behind j, record { inside = λ c k. p.guide_inside (reached 0 h t) c j k })

      pub difference_next : (l : List ℤ) → 3 * w ≤ length l → Held g 3 0 l D t → {l' : List ℤ} → l' ≡ ring_row_laid 3 0 g t l (difference_row g now guide) → Held g 3 0 l' D (t + 1)
      difference_next l room ring q = held_next g 0 t 3 (omega arith) l room D ring _ q (λ i c j. difference_at laid is (reached 0 h t) c behind)

      -- the stage that lags: its row is the plane's own still, and then one row more is laid down
      pub row_ready : Working lag h t → Run reach now (row_at g (reached lag h t)) w
      row_ready i = own_row laid is (reached lag h t) (same (reached lag h t)) (at_row lag h t i).1
        where
          same : (x : ℕ) → x ≤ x
          same x = omega arith

      pub row_own : (c : ℕ) → value now (row_at g (reached lag h t) + c) ≡ own_plane g own (reached lag h t) c
      row_own c = untouched laid is (reached lag h t) c (same (reached lag h t))
        where
          same : (x : ℕ) → x ≤ x
          same x = omega arith

      pub row_next : (f : ℕ → ℤ) {out : List ℤ} → out ≡ row_laid lag g t now (row_at g (reached lag h t)) f → (Working lag h t → (c : ℕ) → c < w → f c ≡ new (reached lag h t) c)
          → out ≡ with_rows (reached lag h (t + 1))
      row_next f {out} q same = go (dec_lt (reached lag h t) (reached lag h (t + 1)))
        where
          go : Dec (Working lag h t) → out ≡ with_rows (reached lag h (t + 1))
          go (yes i) =
              overwrite-row own at w (reached lag h t) new _ (row_at g (reached lag h t)) (q ∙ one_row lag g t i now _ _) refl (area (reached lag h t) (at_row lag h t i).1) is (same i)
              ∙ ap with_rows (next (reached lag h t) (reached lag h (t + 1)) i (reached_next lag h t).1)
            where
              next : (x y : ℕ) → x < y → y ≤ x + 1 → x + 1 ≡ y
              next x y a b = omega arith
          go (no i) = q ∙ no_row lag g t i now _ _ ∙ is ∙ ap with_rows (still (reached lag h t) (reached lag h (t + 1)) i (reached_next lag h t).0)
            where
              still : (x y : ℕ) → (x < y → ⊥) → x ≤ y → x ≡ y
              still x y a b = omega (arith, a)
