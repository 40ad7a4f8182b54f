-- The laws of a plane that stands first in a work buffer. Assumes nothing.
use mathlib.Core.Path.{◌≡◌, refl, sym, ◌∙◌, ap, subst}
use mathlib.Core.Bool.{cond, ◌&&◌}
use mathlib.Core.List.{List, ◌++◌}
use Prim.Native.Nat.{ℕ, ◌+◌, ◌*◌, ◌/◌, ◌%◌, ◌≤◌, ◌<◌}
use native.Mathlib.Nat.{zero-add, div-add-mod'}
use native.Mathlib.Omega.{arith}
use lib.Arith.{digits_div, digits_mod}
use lib.Dec.{T, eqb}
use lib.IntN.{ℤ, pos, nat_abs}
use lib.ListN.{get_or, length, take, drop, replicate}
use lib.Seq.{ext_get_or, length-take-le}
use lib.Signed.{non_neg}
use Rattle.std.proofs.lemmas.List.{length-replicate, get_or-replicate}
use Rattle.integers.specs.Lists.{tabulate, overwrite}
use Rattle.integers.specs.Numbers.{clamp}
use Rattle.integers.proofs.Clamping.{clamp-sample}
use Rattle.integers.proofs.Lists.{length-tabulate, get_or-tabulate, length-overwrite, overwrite_in, overwrite_at, overwrite_cong, overwrite_again}
use Rattle.planes.specs.Planes.{plane_of, Agree}
use Rattle.planes.specs.Lists.{value, sample, put, InPlane}
use Rattle.planes.specs.Places.{half, place}
use Rattle.planes.proofs.Planes.{row_inside, column_inside}
use Rattle.std.proofs.lemmas.Nat.{mul-add-lt}
use Rattle.planes.proofs.Places.{length-put, row-place, small_place, small_rows, put-colour, put-after}
use Rattle.work_buffer.specs.Buffer.{with_plane, zeroed, Narrow}
use Rattle.work_buffer.specs.Places.{places_of}
use Rattle.work_buffer.specs.declared.Places.{Places}

module _ (w h : ℕ) (work : List ℤ) (room : w * h ≤ length work) where
  pub length-with_plane : (p : ℕ → ℕ → ℤ) → length (with_plane w h p work) ≡ length work
  unfolding with_plane
  length-with_plane p = length-overwrite work 0 (w * h) (λ k. p (k / w) (k % w)) (omega (arith, room))

  -- its numbers, one by one
  pub with_plane_at : (p : ℕ → ℕ → ℤ) (k : ℕ) → k < w * h → value (with_plane w h p work) k ≡ p (k / w) (k % w)
  unfolding with_plane
  with_plane_at p k hk = ap (value (with_plane w h p work)) (sym (zero-add k)) ∙ overwrite_in work 0 (w * h) (λ k. p (k / w) (k % w)) k (pos 0) (omega (arith, room)) hk

  -- what holds of the plane's values holds of the buffer's first numbers
  pub with_plane_holds : (p : ℕ → ℕ → ℤ) {l : List ℤ} → l ≡ with_plane w h p work → (P : ℤ → Type 0) → ((r c : ℕ) → r < h → c < w → P (p r c)) → (k : ℕ) → k < w * h → P (value l k)
  with_plane_holds p e P hold k hk =
      subst P (sym (ap (λ (x : List ℤ). value x k) e ∙ with_plane_at p k hk)) (hold (k / w) (k % w) (row_inside w h k hk) (column_inside w h k hk))

  -- it holds the plane
  pub plane_with : (p : ℕ → ℕ → ℤ) → Agree w h (plane_of (pos 0) w (with_plane w h p work)) p
  unfolding plane_of
  plane_with p r c hr hc = with_plane_at p (r * w + c) (mul-add-lt _ _ _ _ hr hc) ∙ (λ i. p (digits_div r hc i) (digits_mod r hc i))

  -- planes that agree inside
  pub with_plane_agree : {p q : ℕ → ℕ → ℤ} → Agree w h p q → with_plane w h p work ≡ with_plane w h q work
  unfolding with_plane
  with_plane_agree e = overwrite_cong work 0 (w * h) _ _ (λ k b. e (k / w) (k % w) (row_inside w h k b) (column_inside w h k b))

  -- a plane over a plane
  pub with_plane_again : (p q : ℕ → ℕ → ℤ) → with_plane w h q (with_plane w h p work) ≡ with_plane w h q work
  unfolding with_plane
  with_plane_again p q = overwrite_again (pos 0) work 0 (w * h) (w * h) _ _ (omega arith) (omega (arith, room))

  -- a buffer by its places: the plane's, and those after it
  pub with_plane_is : (p : ℕ → ℕ → ℤ) {l : List ℤ} → length l ≡ length work → ((k : ℕ) → k < w * h → value l k ≡ p (k / w) (k % w)) → ((k : ℕ) → w * h ≤ k → k < length work → value l k ≡ value work k)
      → l ≡ with_plane w h p work
  unfolding with_plane
  with_plane_is p {l} long inside after =
      sym (ext_get_or (pos 0) (with_plane w h p work) l (length-with_plane p ∙ sym long)
      (λ k hk. overwrite_at work 0 (w * h) (λ k. p (k / w) (k % w)) k (pos 0) (value l k) (omega (arith, room))
      (λ b. absurd (omega arith))
      (λ i b e. sym (inside i b) ∙ ap (value l) (sym (e ∙ zero-add i)))
      (λ b. sym (after k (omega (arith, b)) (omega (arith, hk, length-with_plane p))))))

  -- the plane that it held already
  pub with_own_plane : work ≡ with_plane w h (plane_of (pos 0) w work) work
  unfolding plane_of
  with_own_plane = with_plane_is (λ r c. value work (r * w + c)) refl (λ k b. ap (value work) (sym (div-add-mod' k w))) (λ k b c. refl)

-- a list's first n elements, filled with x
pub filled : {A : Type 0} (x : A) (n : ℕ) (l : List A) {m : List A} → n ≤ length l → m ≡ replicate (length (take n l)) x → m ++ drop n l ≡ overwrite l 0 n (λ k. x)
unfolding overwrite
filled x n l h e = (λ i. (e ∙ same) i ++ drop (sym (zero-add n) i) l)
  where
    same : replicate (length (take n l)) x ≡ tabulate n (λ k. x)
    same =
        ap (λ (k : ℕ). replicate k x) (length-take-le n l h)
        ∙ ext_get_or x (replicate n x) (tabulate n (λ k. x)) (length-replicate n x ∙ sym (length-tabulate n (λ k. x)))
        (λ k b. let i : k < n = omega (arith, b, length-replicate n x) in get_or-replicate n k x x i ∙ sym (get_or-tabulate n (λ k. x) k x i))

-- zeroed, whatever plane stood in it
pub zeroed-with_plane : (w h columns rows : ℕ) (p : ℕ → ℕ → ℤ) (work : List ℤ) → columns * rows ≤ 8 * (w * h) → 8 * (w * h) ≤ length work → zeroed w h (with_plane columns rows p work) ≡ zeroed w h work
unfolding zeroed with_plane
zeroed-with_plane w h columns rows p work few room = overwrite_again (pos 0) work 0 (columns * rows) (8 * (w * h)) _ (λ k. pos 0) few (omega (arith, room))

-- zeroed, it is as long, and zeroing it again changes nothing
pub length-zeroed : (w h : ℕ) (work : List ℤ) → 8 * (w * h) ≤ length work → length (zeroed w h work) ≡ length work
unfolding zeroed
length-zeroed w h work room = length-overwrite work 0 (8 * (w * h)) (λ k. pos 0) (omega (arith, room))

pub zeroed_again : (w h : ℕ) (work : List ℤ) → 8 * (w * h) ≤ length work → zeroed w h (zeroed w h work) ≡ zeroed w h work
unfolding zeroed
zeroed_again w h work room = overwrite_again (pos 0) work 0 (8 * (w * h)) (8 * (w * h)) _ _ (omega arith) (omega (arith, room))

-- ---- a colour's places
-- they lie in a list of the frame's length, and so do as many that stand no farther on
pub places_inside : (w h a b : ℕ) → a < 2 → b < 2 → (s : List ℕ) → length s ≡ w * h → 2 ≤ w → {from down columns rows : ℕ} → from ≤ a * w + b → down ≤ 2 * w → columns ≡ half w b → rows ≡ half h a
    → InPlane s from columns rows down 2
places_inside w h a b ha hb s long hw {from} {down} {columns} {rows} p q n m =
    subst (λ (x : ℕ). InPlane s from x rows down 2) (sym n) (subst (λ (y : ℕ). InPlane s from (half w b) y down 2) (sym m) (small_rows w h a b ha hb s long hw from down p q))

-- ---- samples of a frame in it
-- all of them
pub loaded : (w h : ℕ) (plane : List ℕ) (work : List ℤ) {l : List ℤ} → length plane ≡ w * h → l ≡ overwrite work 0 (length plane) (sample plane)
    → l ≡ with_plane w h (λ r c. pos (plane_of 0 w plane r c)) work
unfolding with_plane sample plane_of
loaded w h plane work e q =
    q ∙ ap (λ (n : ℕ). overwrite work 0 n (λ k. pos (get_or plane k 0))) e
    ∙ overwrite_cong work 0 (w * h) _ _ (λ k b. ap (λ (n : ℕ). pos (get_or plane n 0)) (sym (div-add-mod' k w)))

-- those at a colour's places
pub put_samples : (w h a b : ℕ) → a < 2 → b < 2 → (mosaic : List ℕ) (work : List ℤ) → w * h ≤ length work → {p : Places} → p ≡ places_of w h a b → {l : List ℤ}
    → l ≡ put work (p.columns * p.rows) (place p.from p.down p.columns) (λ k. sample mosaic (place p.from p.down p.columns k))
    → l ≡ with_plane w h (λ r c. cond (eqb (r % 2) a && eqb (c % 2) b) (pos (plane_of 0 w mosaic r c)) (plane_of (pos 0) w work r c)) work
put_samples w h a b ha hb mosaic work room q {l} laid =
    with_plane_is w h work room _ (ap length e ∙ length-put work (half w b * half h a) at (λ k. sample mosaic (at k)))
    (λ k hk. ap (λ (x : List ℤ). value x k) e ∙ put-colour w h a b ha hb (pos 0) work (λ k. sample mosaic (at k)) (λ r c. pos (plane_of 0 w mosaic r c)) there k hk room ∙ ap (cond (eqb (k / w % 2) a && eqb (k % w % 2) b) (pos (plane_of 0 w mosaic (k / w) (k % w)))) (own k))
    (λ k past hk. ap (λ (x : List ℤ). value x k) e ∙ put-after w h a b ha hb (pos 0) work (λ k. sample mosaic (at k)) k past hk)
  where
    at : ℕ → ℕ
    at = place (a * w + b) (2 * w) (half w b)

    e : l ≡ put work (half w b * half h a) at (λ k. sample mosaic (at k))
    e = laid ∙ ap (λ (p : Places). put work (p.columns * p.rows) (place p.from p.down p.columns) (λ k. sample mosaic (place p.from p.down p.columns k))) q

    there : (i j : ℕ) → i < half h a → j < half w b → sample mosaic (at (i * half w b + j)) ≡ pos (plane_of 0 w mosaic (2 * i + a) (2 * j + b))
    there i j hi hj = unfold sample plane_of in ap (λ (n : ℕ). pos (get_or mosaic n 0)) (row-place (a * w + b) (2 * w) (half w b) i j hj ∙ small_place w a b i j)

    own : (k : ℕ) → value work k ≡ plane_of (pos 0) w work (k / w) (k % w)
    own k = unfold plane_of in ap (value work) (sym (div-add-mod' k w))

-- ---- numbers that may be narrowed
-- a number that is a sample at most m
abbrev pub SampleTo : ℕ → ℤ → Type 0
SampleTo m z = T (non_neg z) × (nat_abs z ≤ m)

-- what is clipped is one
pub clipped-sample : (top : ℕ) (z : ℤ) → SampleTo top (clamp (pos 0) (pos top) z)
clipped-sample top z = let c = clamp-sample top z in (subst (λ (x : ℤ). T (non_neg x)) c.1 tt, c.0)

-- a plane of 16-bit samples may be narrowed
pub narrow_plane : (w h : ℕ) (work : List ℤ) → w * h ≤ length work → (p : ℕ → ℕ → ℤ) {l : List ℤ} → l ≡ with_plane w h p work
    → ((r c : ℕ) → r < h → c < w → SampleTo 65535 (p r c)) → Narrow l 0 (w * h)
narrow_plane w h work room p {l} e small = record {
  inside = omega (arith, ap length e, length-with_plane w h work room p, room);
  sign = λ k hk. (sample_at k hk).0;
  small = λ k hk. (sample_at k hk).1;
}
  where
    sample_at : (k : ℕ) → k < w * h → SampleTo 65535 (value l (0 + k))
    sample_at k hk = subst (λ (n : ℕ). SampleTo 65535 (value l n)) (sym (zero-add k)) (with_plane_holds w h work room p e (SampleTo 65535) small k hk)
