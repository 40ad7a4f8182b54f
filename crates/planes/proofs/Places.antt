-- A colour's places in lists: how many there are, and what a list holds when something was put there. Assumes nothing.
use mathlib.Core.Path.{◌≡◌, refl, sym, ◌∙◌, ap, subst}
use mathlib.Core.Bool.{Bool, true, false, cond, not, ◌&&◌}
use mathlib.Core.List.{List}
use Prim.Native.Nat.{ℕ, zero, suc, ◌+◌, ◌*◌, ◌-◌, ◌/◌, ◌%◌, ◌≤◌, ◌<◌}
use native.Mathlib.Decide.{ℕ_discrete}
use native.Mathlib.Nat.{add-zero, add-mul, mul_assoc, mul_left_comm, suc-mul, zero-mul, mul-le-mul, mul-le-mul_left, div-add-mod'}
use native.Mathlib.Numerals.{add-one}
use native.Mathlib.Omega.{arith}
use lib.Arith.{digits_div, digits_mod}
use lib.Dec.{eqb, eqb→eq}
use lib.ListN.{get_or, length, set, length-set}
use lib.Seq.{get_or-set_same, get_or-set_other}
use borrow.Author.Tests.{eqb-true, eqb-false, eq-eqb, ne_eqb}
use Rattle.integers.proofs.Tests.{cond_cases, and_left, and_right}
use Rattle.planes.specs.Places.{half, place}
use Rattle.planes.specs.Lists.{put, InPlane}
use Rattle.planes.proofs.Planes.{row_inside, column_inside}
use Rattle.std.proofs.lemmas.Nat.{mul-add-lt}

-- ---- a list with elements put at places
module _ {A : Type 0} where
  -- is as long
  pub length-put : (l : List A) (n : ℕ) (at : ℕ → ℕ) (f : ℕ → A) → length (put l n at f) ≡ length l
  unfolding put
  length-put l zero at f = refl
  length-put l (suc n) at f = length-set (put l n at f) (at n) (f n) ∙ length-put l n at f

  -- none
  pub put_none : (l : List A) (at : ℕ → ℕ) (f : ℕ → A) → l ≡ put l 0 at f
  unfolding put
  put_none l at f = refl

  -- a turn of a loop that puts: it stores x, which is what comes next, at place k of m
  pub put_step : (l : List A) (n : ℕ) (at : ℕ → ℕ) (f : ℕ → A) (k : ℕ) {m : List A} {x : A} → k ≡ at n → m ≡ put l n at f → x ≡ f n → set m k x ≡ put l (n + 1) at f
  unfolding put
  put_step l n at f k e p q = (λ j. set (p j) (e j) (q j)) ∙ ap (λ (i : ℕ). put l i at f) (sym (add-one n))

  -- n more after m, of which a callee's contract speaks by themselves
  put-append : (l : List A) (m n : ℕ) (at : ℕ → ℕ) (f : ℕ → A) (by : ℕ → ℕ) (g : ℕ → A)
      → ((i : ℕ) → i < n → by i ≡ at (m + i)) → ((i : ℕ) → i < n → g i ≡ f (m + i)) → put (put l m at f) n by g ≡ put l (m + n) at f
  unfolding put
  put-append l m zero at f by g e q = ap (λ (k : ℕ). put l k at f) (sym (add-zero m))
  put-append l m (suc n) at f by g e q =
      (λ j. set (put-append l m n at f by g (λ i h. e i (omega arith)) (λ i h. q i (omega arith)) j) (e n (omega arith) j) (q n (omega arith) j))
      ∙ ap (λ (k : ℕ). put l k at f) next
    where
      next : suc (m + n) ≡ m + suc n
      next = omega arith

  -- what stands at a place: what was put there, if something was
  put_at : (d : A) (l : List A) (n : ℕ) (at : ℕ → ℕ) (f : ℕ → A) (k : ℕ) (v : A) → k < length l
      → ((j : ℕ) → j < n → at j ≡ k → f j ≡ v) → (((j : ℕ) → j < n → at j ≡ k → ⊥) → get_or l k d ≡ v) → get_or (put l n at f) k d ≡ v
  unfolding put
  put_at d l zero at f k v h p q = q (λ j b e. absurd (omega arith))
  put_at d l (suc n) at f k v h p q = go (ℕ_discrete (at n) k) (put_at d l n at f k v h (λ j b e. p j (omega arith) e))
    where
      before : List A
      before = put l n at f

      go : Dec (at n ≡ k) → ((((j : ℕ) → j < n → at j ≡ k → ⊥) → get_or l k d ≡ v) → get_or before k d ≡ v) → get_or (set before (at n) (f n)) k d ≡ v
      go (yes e) r =
          ap (λ (i : ℕ). get_or (set before i (f n)) k d) e
          ∙ get_or-set_same before k (f n) d (subst (λ (i : ℕ). k < i) (sym (length-put l n at f)) h) ∙ p n (omega arith) e
      go (no e) r =
          get_or-set_other before (at n) k (f n) d (λ x. e (sym x))
          ∙ r (λ none. q (λ j b x. last j b x (ℕ_discrete j n) none))
        where
          last : (j : ℕ) → j < suc n → at j ≡ k → Dec (j ≡ n) → ((i : ℕ) → i < n → at i ≡ k → ⊥) → ⊥
          last j b x (yes y) none = e (ap at (sym y) ∙ x)
          last j b x (no y) none = none j (omega arith) x

-- ---- every second place of n, from a on
-- place i of them is one of the n
pub second_inside : (n a i : ℕ) → a < 2 → i < half n a → 2 * i + a < n
unfolding half
second_inside n a i ha hi = omega arith

-- a place, among those with its parity
pub small_inside : (n c : ℕ) → c < n → c / 2 < half n (c % 2)
unfolding half
small_inside n c h = omega arith

-- at least one in a line of 2
pub some_places : (n a : ℕ) → 2 ≤ n → a < 2 → 0 < half n a
unfolding half
some_places n a hn ha = omega arith

-- a colour has no more places than the frame
pub few_places : (w h a b : ℕ) → 1 ≤ w → 1 ≤ h → half w b * half h a ≤ w * h
unfolding half
few_places w h a b hw hh = mul-le-mul {n₁ = (w + 1 - b) / 2} {m₁ = (h + 1 - a) / 2} (omega arith) (omega arith)

-- a row or a column has the other parity where it has not this one
pub other_parity : (n a : ℕ) → a < 2 → eqb (n % 2) (1 - a) ≡ not (eqb (n % 2) a)
other_parity n a h = go (eqb (n % 2) a) refl
  where
    go : (t : Bool) → eqb (n % 2) a ≡ t → eqb (n % 2) (1 - a) ≡ not t
    go true e = ne_eqb (n % 2) (1 - a) (λ f. let g : n % 2 ≡ a = eqb-true (n % 2) a e in omega arith)
    go false e = eq-eqb (n % 2) (1 - a) (let g : n % 2 ≡ a → ⊥ = eqb-false (n % 2) a e in omega arith)

-- ---- by row and column
pub row-place : (from down columns i k : ℕ) → k < columns → place from down columns (i * columns + k) ≡ from + i * down + 2 * k
unfolding place
row-place from down columns i k h = λ m. from + digits_div i h m * down + 2 * digits_mod i h m

-- as code finds place (i, j) in a frame of width w
pub small_place : (w a b i j : ℕ) → a * w + b + i * (2 * w) + 2 * j ≡ (2 * i + a) * w + (2 * j + b)
small_place w a b i j = omega (arith, add-mul (2 * i) a w, mul_assoc 2 i w, mul_left_comm i 2 w)

-- put row by row: no row, and a turn of the loop
module _ {A : Type 0} where
  pub put_no_row : (l : List A) (columns : ℕ) (at : ℕ → ℕ) (f : ℕ → A) → l ≡ put l (0 * columns) at f
  put_no_row l columns at f = put_none l at f ∙ ap (λ (n : ℕ). put l n at f) (sym (zero-mul columns))

  pub put-row : (l : List A) (from down columns i : ℕ) (f : ℕ → A) (g : ℕ → A) → ((k : ℕ) → k < columns → g k ≡ f (i * columns + k)) → {m out : List A} → m ≡ put l (i * columns) (place from down columns) f
      → out ≡ put m columns (λ k. from + i * down + 2 * k) g → out ≡ put l ((i + 1) * columns) (place from down columns) f
  put-row l from down columns i f g e p q =
      q ∙ ap (λ (x : List A). put x columns (λ k. from + i * down + 2 * k) g) p
      ∙ put-append l (i * columns) columns (place from down columns) f _ g (λ k b. sym (row-place from down columns i k b)) e
      ∙ ap (λ (n : ℕ). put l n (place from down columns) f) next
    where
      next : i * columns + columns ≡ (i + 1) * columns
      next = omega (arith, suc-mul i columns)

-- ---- in a plane of w by h that stands first in a list
module _ (w h a b : ℕ) (ha : a < 2) (hb : b < 2) where
  -- how many columns and rows of places there are
  abbrev pub columns : ℕ
  columns = half w b

  abbrev pub rows : ℕ
  rows = half h a

  -- and where they stand
  abbrev pub at_place : ℕ → ℕ
  at_place = place (a * w + b) (2 * w) columns

  -- all of them inside
  small_in_list : (i j : ℕ) → i < rows → j < columns → a * w + b + i * (2 * w) + 2 * j < w * h
  small_in_list i j hi hj = subst (λ (n : ℕ). n < w * h) (sym (small_place w a b i j)) (mul-add-lt _ _ _ _ (second_inside h a i ha hi) (second_inside w b j hb hj))

  -- and so are as many places that stand no farther on
  pub nearer_in_list : (from down across i j : ℕ) → from ≤ a * w + b → down ≤ 2 * w → across ≤ 2 → i < rows → j < columns → from + i * down + j * across < w * h
  nearer_in_list from down across i j p q r hi hj = omega (arith, small_in_list i j hi hj, mul-le-mul_left i q, mul-le-mul_left j r)

  -- so that their rows may be read and put
  pub small_rows : (s : List ℕ) → length s ≡ w * h → 2 ≤ w → (from down : ℕ) → from ≤ a * w + b → down ≤ 2 * w → InPlane s from columns rows down 2
  small_rows s e hw from down p q = record { some = some_places w b hw hb; inside = λ i j hi hj. omega (arith, nearer_in_list from down 2 i j p q (omega arith) hi hj, e) }

  -- place j of them is row 2 · (j / columns) + a, column 2 · (j % columns) + b
  at_place_is : (j : ℕ) → at_place j ≡ (2 * (j / columns) + a) * w + (2 * (j % columns) + b)
  unfolding place
  at_place_is j = small_place w a b (j / columns) (j % columns)

  -- and a place with these parities is one of them
  found : (k : ℕ) → k < w * h → k / w % 2 ≡ a → k % w % 2 ≡ b → ((j : ℕ) → j < columns * rows → at_place j ≡ k → ⊥) → ⊥
  found k hk x y none =
      none (k / w / 2 * columns + k % w / 2) (mul-add-lt _ _ _ _ row column)
      (row-place (a * w + b) (2 * w) columns (k / w / 2) (k % w / 2) column ∙ small_place w a b (k / w / 2) (k % w / 2) ∙ (λ m. twice_row m * w + twice_column m) ∙ div-add-mod' k w)
    where
      row : k / w / 2 < rows
      row = subst (λ (n : ℕ). k / w / 2 < half h n) x (small_inside h (k / w) (row_inside w h k hk))

      column : k % w / 2 < columns
      column = subst (λ (n : ℕ). k % w / 2 < half w n) y (small_inside w (k % w) (column_inside w h k hk))

      twice_row : 2 * (k / w / 2) + a ≡ k / w
      twice_row = omega arith

      twice_column : 2 * (k % w / 2) + b ≡ k % w
      twice_column = omega arith

  module _ {A : Type 0} (d : A) (l : List A) (f : ℕ → A) where
    -- what a place of the plane holds, when a plane's elements were put at the colour's places
    pub put-colour : (g : ℕ → ℕ → A) → ((i j : ℕ) → i < rows → j < columns → f (i * columns + j) ≡ g (2 * i + a) (2 * j + b)) → (k : ℕ) → k < w * h → w * h ≤ length l
        → get_or (put l (columns * rows) at_place f) k d ≡ cond (eqb (k / w % 2) a && eqb (k % w % 2) b) (g (k / w) (k % w)) (get_or l k d)
    put-colour g e k hk long = put_at d l (columns * rows) at_place f k _ (omega (arith, hk, long)) there elsewhere
      where
        there : (j : ℕ) → j < columns * rows → at_place j ≡ k → f j ≡ cond (eqb (k / w % 2) a && eqb (k % w % 2) b) (g (k / w) (k % w)) (get_or l k d)
        there j hj is =
            ap f (sym (div-add-mod' j columns)) ∙ e (j / columns) (j % columns) i_inside j_inside ∙ (λ m. g (row m) (column m))
            ∙ sym (λ m. cond (eq-eqb (k / w % 2) a row_parity m && eq-eqb (k % w % 2) b column_parity m) (g (k / w) (k % w)) (get_or l k d))
          where
            i_inside : j / columns < rows
            i_inside = row_inside columns rows j hj

            j_inside : j % columns < columns
            j_inside = column_inside columns rows j hj

            inside : 2 * (j % columns) + b < w
            inside = second_inside w b (j % columns) hb j_inside

            at : k ≡ (2 * (j / columns) + a) * w + (2 * (j % columns) + b)
            at = sym is ∙ at_place_is j

            row : 2 * (j / columns) + a ≡ k / w
            row = sym (ap (λ (n : ℕ). n / w) at ∙ digits_div (2 * (j / columns) + a) inside)

            column : 2 * (j % columns) + b ≡ k % w
            column = sym (ap (λ (n : ℕ). n % w) at ∙ digits_mod (2 * (j / columns) + a) inside)

            row_parity : k / w % 2 ≡ a
            row_parity = omega (arith, row)

            column_parity : k % w % 2 ≡ b
            column_parity = omega (arith, column)

        elsewhere : ((j : ℕ) → j < columns * rows → at_place j ≡ k → ⊥) → get_or l k d ≡ cond (eqb (k / w % 2) a && eqb (k % w % 2) b) (g (k / w) (k % w)) (get_or l k d)
        elsewhere none =
            cond_cases (eqb (k / w % 2) a && eqb (k % w % 2) b) _ _ (λ v. get_or l k d ≡ v)
            (λ t. absurd (found k hk (eqb→eq (k / w % 2) a (and_left (eqb (k / w % 2) a) (eqb (k % w % 2) b) t)) (eqb→eq (k % w % 2) b (and_right (eqb (k / w % 2) a) (eqb (k % w % 2) b) t)) none))
            (λ t. refl)

    -- after the plane the list is as it was
    pub put-after : (k : ℕ) → w * h ≤ k → k < length l → get_or (put l (columns * rows) at_place f) k d ≡ get_or l k d
    put-after k past hk = put_at d l (columns * rows) at_place f k (get_or l k d) hk (λ j hj is. absurd (no j hj is)) (λ none. refl)
      where
        no : (j : ℕ) → j < columns * rows → at_place j ≡ k → ⊥
        no j hj is = omega (arith, past, is, at_place_is j, mul-add-lt _ _ _ _ (second_inside h a (j / columns) ha (row_inside columns rows j hj)) (second_inside w b (j % columns) hb (column_inside columns rows j hj)))
