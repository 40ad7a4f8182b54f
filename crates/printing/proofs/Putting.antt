-- Text put into a buffer: one part after another, the last byte before the others, and a part of bytes at once. Assumes nothing.
use Prim.Native.Nat.{ℕ, suc, ◌+◌, ◌≤◌}
use mathlib.Core.Path.{◌≡◌, refl, sym, ap, ◌∙◌}
use mathlib.Core.List.{List, [], ◌∷◌, ◌++◌}
use native.Mathlib.Nat.{add-zero, zero-add}
use native.Mathlib.Omega.{arith}
use lib.ListN.{length, take, drop, set, length-append}
use lib.Seq.{sets, sets-eq, set_comm}
use borrow.Rule.Slice.PartMut.{put_mid}
use Rattle.std.proofs.lemmas.Slice.{put_mid-paste}
use Rattle.std.proofs.lemmas.List.{take_all}
use Rattle.integers.proofs.Lists.{sets-append}
use Rattle.printing.specs.Text.{Put, Written}

-- the last byte stored before the others
pub sets_last : (l : List ℕ) (at k : ℕ) (p : List ℕ) (x : ℕ) → k ≡ at + length p → sets (set l k x) at p ≡ sets l at (p ++ (x ∷ []))
sets_last l at k [] x e = ap (λ (i : ℕ). set l i x) (e ∙ add-zero at)
sets_last l at k (y ∷ p) x e =
    ap (λ (m : List ℕ). sets m (suc at) p) (set_comm l k at x y (λ i. omega arith)) ∙ sets_last (set l at y) (suc at) k p x (omega arith)

-- ---- one part after another
pub put_then : {at k r : ℕ} {p q before x y : List ℕ} → Put at p before k x → Put k q x r y → Put at (p ++ q) before r y
put_then {at} {k} {r} {p} {q} {before} f g = record {
  buffer = g.buffer ∙ (λ j. sets (f.buffer j) (f.place j) q) ∙ sets-append before at p q;
  place = omega (arith, length-append p q);
}

pub put_nothing : (at : ℕ) (before : List ℕ) → Put at [] before at before
put_nothing at before = record { buffer = refl; place = sym (add-zero at) }

-- at the front, where the buffer is given back as the last part left it
pub put_front : (p : List ℕ) {r : ℕ} {before x y : List ℕ} → length p ≤ length before → Put 0 p before r x → y ≡ x → Written p before r y
put_front p h f e = record { buffer = e ∙ f.buffer; bytes = f.place ∙ zero-add (length p); fit = omega arith }

-- ---- bytes copied into a part of the buffer
pub put_part : (at m : ℕ) (before bytes : List ℕ) {y : List ℕ} → m ≡ length bytes → at + length bytes ≤ length before → y ≡ bytes
    → Put at bytes before (at + length bytes) (put_mid at m before y)
put_part at m before bytes {y} e h p = record { buffer = laid; place = refl }
  where
    n : ℕ
    n = length bytes

    laid : put_mid at m before y ≡ sets before at bytes
    laid =
        put_mid-paste at m before y bytes n p (sym e) refl
        ∙ ap (λ (l : List ℕ). (take at before ++ l) ++ drop (at + n) before) (take_all n bytes (omega arith))
        ∙ sym (sets-eq bytes before at h)
