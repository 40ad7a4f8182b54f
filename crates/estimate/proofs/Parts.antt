-- A row of a plane laid down in parts. Assumes nothing.
use mathlib.Core.Path.{◌≡◌, refl, ◌∙◌, ap}
use mathlib.Core.List.{List}
use Prim.Native.Nat.{ℕ, ◌+◌, ◌*◌, ◌-◌, ◌≤◌, ◌<◌}
use native.Mathlib.Nat.{zero-add}
use native.Mathlib.Omega.{arith}
use lib.ListN.{length}
use Rattle.integers.specs.Lists.{overwrite}
use Rattle.integers.proofs.Lists.{overwrite_none, overwrite-append}
use Rattle.planes.proofs.Planes.{row_room}

-- a part of row r lies in the plane
pub part_room : (w h r first count : ℕ) → r < h → first + count ≤ w → r * w + first + count ≤ w * h
part_room w h r first count l e = omega (arith, row_room w h r l)

module _ (l : List ℕ) (at : ℕ) where
  -- all places of a part
  pub part_laid : (f : ℕ → ℕ) {m n : ℕ} {laid : List ℕ} → laid ≡ overwrite l at m f → m ≡ n → laid ≡ overwrite l at n f
  part_laid f p e = p ∙ ap (λ (k : ℕ). overwrite l at k f) e

  -- a part after m places
  next_part : (f g : ℕ → ℕ) (m n o : ℕ) {before after : List ℕ} → before ≡ overwrite l at m f → o ≡ at + m → after ≡ overwrite before o n g → ((k : ℕ) → g k ≡ f (m + k)) → at + (m + n) ≤ length l
      → after ≡ overwrite l at (m + n) f
  next_part f g m n o p e q same room = q ∙ (λ i. overwrite (p i) (e i) n g) ∙ overwrite-append l at m n f g room (λ k b. same k)

  -- the whole row as one part
  pub one_part : (f : ℕ → ℕ) (w : ℕ) {laid : List ℕ} → laid ≡ overwrite l (at + 0) w (λ k. f (0 + k)) → at + w ≤ length l → laid ≡ overwrite l at w f
  one_part f w q room =
      part_laid f (next_part f (λ k. f (0 + k)) 0 w (at + 0) (overwrite_none l at f) refl q (λ k. refl) (omega arith)) (zero-add w)

  -- two places, those between, and two places
  pub three_parts : (f : ℕ → ℕ) (w : ℕ) {a b c : List ℕ} → 4 < w → at + w ≤ length l
      → a ≡ overwrite l (at + 0) 2 (λ k. f (0 + k)) → b ≡ overwrite a (at + 2) (w - 4) (λ k. f (2 + k)) → c ≡ overwrite b (at + (w - 2)) 2 (λ k. f (w - 2 + k))
      → c ≡ overwrite l at w f
  three_parts f w {a} {b} h room p q s =
      let first : a ≡ overwrite l at 2 f = one_part f 2 p (omega arith) in
      let inner : b ≡ overwrite l at (2 + (w - 4)) f = next_part f (λ k. f (2 + k)) 2 (w - 4) (at + 2) first refl q (λ k. refl) (omega arith) in
      let middle : 2 + (w - 4) ≡ w - 2 = omega arith in
      part_laid f (next_part f (λ k. f (w - 2 + k)) (w - 2) 2 (at + (w - 2)) (part_laid f inner middle) refl s (λ k. refl) (omega arith)) (omega arith)
