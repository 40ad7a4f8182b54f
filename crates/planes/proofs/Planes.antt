-- The laws of planes and of the lists that hold them. Assumes nothing.
use Rattle.std.proofs.lemmas.Nat.{mul-add-lt}
use mathlib.Core.Path.{◌≡◌, refl, sym, ◌∙◌, ap}
use mathlib.Core.List.{List}
use Prim.Native.Nat.{ℕ, zero, suc, ◌+◌, ◌*◌, ◌/◌, ◌%◌, ◌≤◌, ◌<◌}
use native.Mathlib.Nat.{mod-lt, div-lt_iff_lt-mul, mul_comm, suc-mul, zero-mul, mul-le-mul, mul-le-mul_right, div-add-mod'}
use native.Mathlib.Omega.{arith}
use lib.Arith.{digits_div, digits_mod}
use lib.ListN.{length, get_or}
use Rattle.integers.specs.Lists.{overwrite}
use Rattle.integers.proofs.Lists.{length-tabulate, get_or-tabulate, tabulate_cong, tabulate-get_or, overwrite_none, overwrite-append, overwrite_all}
use Rattle.planes.specs.Planes.{listing, plane_of, Agree, Sizes}

-- ---- a plane's sizes
pub sized : {least w h : ℕ} → least ≤ w → w ≤ 2048 → least ≤ h → h ≤ 2048 → Sizes least w h
sized a b c d = record { width_from = a; width_to = b; height_from = c; height_to = d; area = mul-le-mul b d }

-- from 2 on they are from 1 on
pub sizes_from_1 : {w h : ℕ} → Sizes 2 w h → Sizes 1 w h
sizes_from_1 z = sized (omega (arith, z.width_from)) z.width_to (omega (arith, z.height_from)) z.height_to

-- ---- place k of a plane w by h
pub width_pos : (w h k : ℕ) → k < w * h → 0 < w
width_pos zero h k b = absurd (omega arith)
width_pos (suc w) h k b = omega arith

pub row_inside : (w h k : ℕ) → k < w * h → k / w < h
row_inside w h k b = (div-lt_iff_lt-mul (width_pos w h k b)).1 (omega (arith, mul_comm w h))

pub column_inside : (w h k : ℕ) → k < w * h → k % w < w
column_inside w h k b = mod-lt k (width_pos w h k b)

-- row i and the rows before it
pub row_room : (w h i : ℕ) → i < h → i * w + w ≤ w * h
row_room w h i l = omega (arith, suc-mul i w, mul-le-mul_right w l, mul_comm w h)

module _ {A : Type 0} where
  pub length-listing : (w h : ℕ) (p : ℕ → ℕ → A) → length (listing w h p) ≡ w * h
  unfolding listing
  length-listing w h p = length-tabulate (w * h) (λ k. p (k / w) (k % w))

  -- a list made of a plane holds the plane
  pub plane_of-listing : (d : A) (w h : ℕ) (p : ℕ → ℕ → A) → Agree w h (plane_of d w (listing w h p)) p
  unfolding plane_of listing
  plane_of-listing d w h p r c hr hc =
      get_or-tabulate (w * h) (λ k. p (k / w) (k % w)) (r * w + c) d (mul-add-lt _ _ _ _ hr hc) ∙ (λ i. p (digits_div r hc i) (digits_mod r hc i))

  pub listing_agree : (w h : ℕ) {p q : ℕ → ℕ → A} → Agree w h p q → listing w h p ≡ listing w h q
  unfolding listing
  listing_agree w h e = tabulate_cong (w * h) _ _ (λ k b. e (k / w) (k % w) (row_inside w h k b) (column_inside w h k b))

  -- and a list is the listing of the plane that it holds
  pub listing-plane_of : (d : A) (w h : ℕ) (s : List A) → length s ≡ w * h → listing w h (plane_of d w s) ≡ s
  unfolding listing plane_of
  listing-plane_of d w h s e =
      tabulate_cong (w * h) _ _ (λ k b. ap (λ (n : ℕ). get_or s n d) (div-add-mod' k w)) ∙ tabulate-get_or s (w * h) d e

  -- ---- a plane laid down row by row, from place o of a list on
  pub overwrite_no_row : (l : List A) (o w : ℕ) (f : ℕ → A) → l ≡ overwrite l o (0 * w) f
  overwrite_no_row l o w f = overwrite_none l o f ∙ ap (λ (n : ℕ). overwrite l o n f) (sym (zero-mul w))

  -- a turn of the loop: row i, at place `at`
  pub overwrite-row : (l : List A) (o w i : ℕ) (p : ℕ → ℕ → A) (g : ℕ → A) (at : ℕ) {m out : List A} → out ≡ overwrite m at w g → at ≡ o + i * w → o + (i * w + w) ≤ length l
      → m ≡ overwrite l o (i * w) (λ k. p (k / w) (k % w)) → ((j : ℕ) → j < w → g j ≡ p i j)
      → out ≡ overwrite l o ((i + 1) * w) (λ k. p (k / w) (k % w))
  overwrite-row l o w i p g at q z h e f =
      q ∙ (λ k. overwrite (e k) (z k) w g)
      ∙ overwrite-append l o (i * w) w (λ k. p (k / w) (k % w)) g h (λ j b. f j b ∙ sym (λ k. p (digits_div i b k) (digits_mod i b k)))
      ∙ ap (λ (n : ℕ). overwrite l o n (λ k. p (k / w) (k % w))) next
    where
      next : i * w + w ≡ (i + 1) * w
      next = omega (arith, suc-mul i w)

  -- the whole list
  pub overwrite-plane : (l : List A) (w h : ℕ) (p : ℕ → ℕ → A) → length l ≡ w * h → overwrite l 0 (h * w) (λ k. p (k / w) (k % w)) ≡ listing w h p
  unfolding listing
  overwrite-plane l w h p e = ap (λ (n : ℕ). overwrite l 0 n (λ k. p (k / w) (k % w))) (mul_comm h w) ∙ overwrite_all l (w * h) (λ k. p (k / w) (k % w)) (sym e)

  -- n rows of it, from the start of a list
  abbrev pub rows_laid : List A → ℕ → ℕ → (ℕ → ℕ → A) → List A
  rows_laid l w n p = overwrite l 0 (n * w) (λ k. p (k / w) (k % w))

  -- the next one
  pub row_laid : (w : ℕ) {h r : ℕ} → r < h → (l : List A) → length l ≡ w * h → (p : ℕ → ℕ → A) {m out : List A} → m ≡ rows_laid l w r p → out ≡ overwrite m (r * w) w (p r) → out ≡ rows_laid l w (r + 1) p
  row_laid w {h} {r} hr l e p q o = overwrite-row l 0 w r p (p r) (r * w) o (omega arith) (omega (arith, row_room w h r hr)) q (λ j b. refl)

  -- all of them
  pub all_laid : (w : ℕ) {h r : ℕ} → r ≡ h → (l : List A) → length l ≡ w * h → (p : ℕ → ℕ → A) {m : List A} → m ≡ rows_laid l w r p → m ≡ listing w h p
  all_laid w {h} z l e p q = q ∙ ap (λ (n : ℕ). rows_laid l w n p) z ∙ overwrite-plane l w h p e
