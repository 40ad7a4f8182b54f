-- The neighbourhood as code fills it: by reflected places, and without reflection where it lies inside. Assumes nothing.
use mathlib.Core.Path.{◌≡◌, sym, ◌∙◌, ap}
use mathlib.Core.Bool.{true, false, ◌&&◌}
use mathlib.Core.List.{List, [], ◌∷◌}
use Prim.Native.Nat.{ℕ, ◌+◌, ◌*◌, ◌-◌, ◌≤◌, ◌<◌}
use native.Mathlib.Nat.{add-zero, add-mul}
use native.Mathlib.Omega.{arith}
use lib.Dec.{leb, ltb, leb→le, ltb→lt}
use lib.IntN.{pos, ◌+ℤ◌, ◌-ℤ◌}
use lib.ListN.{get_or}
use borrow.Author.Tests.{le-leb, lt-leb, lt-ltb}
use Rattle.integers.specs.Lists.{tabulate}
use Rattle.integers.proofs.Tests.{true_is, and_left, and_right}
use Rattle.integers.proofs.Bounds.{minus_pos}
use Rattle.integers.proofs.Linear.{linear, number, x₀, x₁, ◌⊕◌, ◌⊖◌}
use Rattle.integers.proofs.Lists.{tabulate_cong}
use Rattle.border.specs.Border.{reflect}
use Rattle.border.proofs.Reflection.{reflect_inside}
use Rattle.planes.specs.Planes.{plane_of}
use Rattle.planes.proofs.Planes.{row_room}
use Rattle.neighbourhood.specs.Inner.{inner}
use Rattle.neighbourhood.specs.Place.{neighbourhood}

-- ---- five samples, one after the other
pub five_from : (l : List ℕ) (at : ℕ) → get_or l at 0 ∷ get_or l (at + 1) 0 ∷ get_or l (at + 2) 0 ∷ get_or l (at + 3) 0 ∷ get_or l (at + 4) 0 ∷ [] ≡ tabulate 5 (λ j. get_or l (at + j) 0)
unfolding tabulate
five_from l at = λ i. get_or l (sym (add-zero at) i) 0 ∷ get_or l (at + 1) 0 ∷ get_or l (at + 2) 0 ∷ get_or l (at + 3) 0 ∷ get_or l (at + 4) 0 ∷ []

-- ---- row k of the five
abbrev pub row : ℕ → ℕ → (ℕ → ℕ → ℕ) → ℕ → ℕ → ℕ → List ℕ
row w h plane r c k = tabulate 5 (λ j. plane (reflect h (pos r +ℤ (pos k -ℤ pos 2))) (reflect w (pos c +ℤ (pos j -ℤ pos 2))))

module _ (w h : ℕ) (plane : ℕ → ℕ → ℕ) (r c : ℕ) where
  pub five-rows : {n₀ n₁ n₂ n₃ n₄ : List ℕ} → n₀ ≡ row w h plane r c 0 → n₁ ≡ row w h plane r c 1 → n₂ ≡ row w h plane r c 2 → n₃ ≡ row w h plane r c 3 → n₄ ≡ row w h plane r c 4
      → n₀ ∷ n₁ ∷ n₂ ∷ n₃ ∷ n₄ ∷ [] ≡ neighbourhood w h plane r c
  unfolding neighbourhood tabulate
  five-rows e₀ e₁ e₂ e₃ e₄ = λ i. e₀ i ∷ e₁ i ∷ e₂ i ∷ e₃ i ∷ e₄ i ∷ []

-- ---- reflected: the code counts from two before
counted : (n i k : ℕ) → reflect n (pos (i + k) -ℤ pos 2) ≡ reflect n (pos i +ℤ (pos k -ℤ pos 2))
counted n i k = ap (reflect n) (linear (pos i ∷ pos k ∷ []) (x₀ ⊕ x₁ ⊖ number (pos 2)) (x₀ ⊕ (x₁ ⊖ number (pos 2))) tt)

-- five samples of a row that starts at `at`
pub five_reflected : (l : List ℕ) (w c at : ℕ) {s₀ s₁ s₂ s₃ s₄ : ℕ}
    → s₀ ≡ get_or l (at + reflect w (pos c -ℤ pos 2)) 0 → s₁ ≡ get_or l (at + reflect w (pos (c + 1) -ℤ pos 2)) 0 → s₂ ≡ get_or l (at + reflect w (pos (c + 2) -ℤ pos 2)) 0
    → s₃ ≡ get_or l (at + reflect w (pos (c + 3) -ℤ pos 2)) 0 → s₄ ≡ get_or l (at + reflect w (pos (c + 4) -ℤ pos 2)) 0
    → s₀ ∷ s₁ ∷ s₂ ∷ s₃ ∷ s₄ ∷ [] ≡ tabulate 5 (λ j. get_or l (at + reflect w (pos (c + j) -ℤ pos 2)) 0)
unfolding tabulate
five_reflected l w c at e₀ e₁ e₂ e₃ e₄ = λ i. (e₀ ∙ ap (λ (k : ℕ). get_or l (at + reflect w (pos k -ℤ pos 2)) 0) (sym (add-zero c))) i ∷ e₁ i ∷ e₂ i ∷ e₃ i ∷ e₄ i ∷ []

-- row k, where the code has `at` for r + k
pub row_counted : (w h : ℕ) (plane : ℕ → ℕ → ℕ) (r c k at : ℕ) {n : List ℕ} → at ≡ r + k → n ≡ tabulate 5 (λ j. plane (reflect h (pos at -ℤ pos 2)) (reflect w (pos (c + j) -ℤ pos 2)))
    → n ≡ row w h plane r c k
row_counted w h plane r c k at e f =
    f ∙ (λ i. tabulate 5 (λ j. plane (reflect h (pos (e i) -ℤ pos 2)) (reflect w (pos (c + j) -ℤ pos 2))))
    ∙ (λ i. tabulate 5 (λ j. plane (counted h r k i) (counted w c j i)))

-- ---- inside
pub inner_no : (n i : ℕ) → i < 2 → false ≡ inner n i
unfolding inner
inner_no n i h = sym (ap (λ b. b && ltb (i + 2) n) (lt-leb 2 i h))

pub inner_yes : (n i : ℕ) → 2 ≤ i → ltb (i + 2) n ≡ inner n i
unfolding inner
inner_yes n i h = sym (ap (λ b. b && ltb (i + 2) n) (le-leb 2 i h))

pub inner_is : (n i : ℕ) → inner n i ≡ true → (2 ≤ i) × (i + 2 < n)
unfolding inner
inner_is n i e =
    let t = true_is e in
    (leb→le 2 i (and_left (leb 2 i) (ltb (i + 2) n) t), ltb→lt (i + 2) n (and_right (leb 2 i) (ltb (i + 2) n) t))

pub inner_from : (n i : ℕ) → 2 ≤ i → i + 2 < n → inner n i ≡ true
inner_from n i a b = sym (inner_yes n i a) ∙ lt-ltb (i + 2) n b

inner-place : (n i k : ℕ) → 2 ≤ i → i + 2 < n → k < 5 → reflect n (pos i +ℤ (pos k -ℤ pos 2)) ≡ i - 2 + k
inner-place n i k a b h =
    sym (counted n i k) ∙ ap (reflect n) (minus_pos (i + k) 2 (omega arith)) ∙ reflect_inside n (i + k - 2) (omega arith) ∙ omega arith

module _ (w h r c : ℕ) (rows : inner h r ≡ true) (columns : inner w c ≡ true) where
  -- the five rows lie in the list
  pub inside_room : (r - 2) * w + (c - 2) + 4 * w + 5 ≤ w * h
  inside_room =
      let a = inner_is h r rows in
      let b = inner_is w c columns in
      let e : r - 2 + 4 ≡ r + 2 = omega arith in
      let f : (r + 2) * w ≡ (r - 2) * w + 4 * w = ap (λ (n : ℕ). n * w) (sym e) ∙ add-mul (r - 2) 4 w in
      omega (arith, row_room w h (r + 2) a.1, f, b.0, b.1)

  -- row k starts k rows after the first
  pub row_within : (l : List ℕ) (k at : ℕ) {n : List ℕ} → k < 5 → at ≡ (r - 2) * w + (c - 2) + k * w → n ≡ tabulate 5 (λ j. get_or l (at + j) 0) → n ≡ row w h (plane_of 0 w l) r c k
  unfolding plane_of
  row_within l k at hk e f =
      f ∙ tabulate_cong 5 _ _ (λ j hj. ap (λ (i : ℕ). get_or l i 0) (place j)
      ∙ sym (λ i. get_or l (inner-place h r k (inner_is h r rows).0 (inner_is h r rows).1 hk i * w + inner-place w c j (inner_is w c columns).0 (inner_is w c columns).1 hj i) 0))
    where
      place : (j : ℕ) → at + j ≡ (r - 2 + k) * w + (c - 2 + j)
      place j = omega (arith, e, add-mul (r - 2) k w)
