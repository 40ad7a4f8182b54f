-- The laws of the taps on endless lines and planes: they are linear, they move and turn round with the line, both directions of a
-- plane commute, and joining what was split gives the line 32 times. Assumes nothing.
use mathlib.Core.Path.{◌≡◌, refl, sym, ◌∙◌, ap, fun_ext}
use mathlib.Core.List.{[], ◌∷◌}
use Prim.Native.Nat.{ℕ, ◌+◌, ◌*◌}
use native.Mathlib.Omega.{arith}
use lib.IntN.{ℤ, pos, negsuc, neg_ℤ, ◌+ℤ◌, ◌-ℤ◌, ◌*ℤ◌, neg_ℤ-neg_ℤ, +ℤ_comm, +ℤ_idr, +ℤ_assoc, zero-*ℤ}
use Rattle.integers.proofs.Products.{+ℤ_interchange, +ℤ_*ℤ, *ℤ_+ℤ, *ℤ_left_comm, negℤ_*ℤ}
use Rattle.integers.proofs.Linear.{Linear, linear, atom, x₀, x₁, x₂, x₃, ◌⊕◌, ◌⊛◌}
use Rattle.filters.specs.Bank.{Taps, weighted, tap, low_split, high_split, low_join, high_join}

-- ---- five values
-- the same sum over expressions, for `linear`
abbrev pub weighted_linear : Taps → Linear → Linear → Linear → Linear → Linear → Linear
weighted_linear t a b c d e = t.centre ⊛ c ⊕ t.near ⊛ (b ⊕ d) ⊕ t.far ⊛ (a ⊕ e)

module _ (t : Taps) where
  -- read from the other end
  pub weighted-turned : (a b c d e : ℤ) → weighted t e d c b a ≡ weighted t a b c d e
  unfolding weighted
  weighted-turned a b c d e = λ m. t.centre *ℤ c +ℤ t.near *ℤ +ℤ_comm d b m +ℤ t.far *ℤ +ℤ_comm e a m

  pub weighted_add : (a b c d e a' b' c' d' e' : ℤ)
      → weighted t (a +ℤ a') (b +ℤ b') (c +ℤ c') (d +ℤ d') (e +ℤ e') ≡ weighted t a b c d e +ℤ weighted t a' b' c' d' e'
  unfolding weighted
  weighted_add a b c d e a' b' c' d' e' =
      (λ m. *ℤ_+ℤ t.centre c c' m +ℤ pair t.near b d b' d' m +ℤ pair t.far a e a' e' m)
      ∙ linear ((t.centre *ℤ c) ∷ (t.centre *ℤ c') ∷ (t.near *ℤ (b +ℤ d)) ∷ (t.near *ℤ (b' +ℤ d')) ∷ (t.far *ℤ (a +ℤ e)) ∷ (t.far *ℤ (a' +ℤ e')) ∷ [])
      ((x₀ ⊕ x₁) ⊕ (x₂ ⊕ x₃) ⊕ (atom 4 ⊕ atom 5)) ((x₀ ⊕ x₂ ⊕ atom 4) ⊕ (x₁ ⊕ x₃ ⊕ atom 5)) tt
    where
      pair : (f x y x' y' : ℤ) → f *ℤ ((x +ℤ x') +ℤ (y +ℤ y')) ≡ f *ℤ (x +ℤ y) +ℤ f *ℤ (x' +ℤ y')
      pair f x y x' y' = ap (λ z. f *ℤ z) (+ℤ_interchange x x' y y') ∙ *ℤ_+ℤ f (x +ℤ y) (x' +ℤ y')

  pub weighted_times : (k a b c d e : ℤ) → weighted t (k *ℤ a) (k *ℤ b) (k *ℤ c) (k *ℤ d) (k *ℤ e) ≡ k *ℤ weighted t a b c d e
  unfolding weighted
  weighted_times k a b c d e =
      (λ m. *ℤ_left_comm t.centre k c m +ℤ pair t.near b d m +ℤ pair t.far a e m)
      ∙ ap (λ z. z +ℤ k *ℤ (t.far *ℤ (a +ℤ e))) (sym (*ℤ_+ℤ k (t.centre *ℤ c) (t.near *ℤ (b +ℤ d))))
      ∙ sym (*ℤ_+ℤ k (t.centre *ℤ c +ℤ t.near *ℤ (b +ℤ d)) (t.far *ℤ (a +ℤ e)))
    where
      pair : (f x y : ℤ) → f *ℤ (k *ℤ x +ℤ k *ℤ y) ≡ k *ℤ (f *ℤ (x +ℤ y))
      pair f x y = ap (λ z. f *ℤ z) (sym (*ℤ_+ℤ k x y)) ∙ *ℤ_left_comm f k (x +ℤ y)

  -- where the outer taps are 0, the outer values do not count
  pub weighted-three : t.far ≡ pos 0 → (a b c d e : ℤ) → weighted t (pos 0) b c d (pos 0) ≡ weighted t a b c d e
  unfolding weighted
  weighted-three z a b c d e = ap (λ x. t.centre *ℤ c +ℤ t.near *ℤ (b +ℤ d) +ℤ x) (none (pos 0) ∙ sym (none (a +ℤ e)))
    where
      none : (x : ℤ) → t.far *ℤ x ≡ pos 0
      none x = ap (λ f. f *ℤ x) z ∙ zero-*ℤ x

-- ---- an endless line
pub tap_cong : (t : Taps) (d : ℕ) (X Y : ℤ → ℤ) → ((i : ℤ) → X i ≡ Y i) → (i : ℤ) → tap t d X i ≡ tap t d Y i
tap_cong t d X Y e i = ap (λ (Z : ℤ → ℤ). tap t d Z i) (fun_ext e)

module _ (t : Taps) (d : ℕ) where
  -- moved, and turned round
  pub tap_moved : (X σ : ℤ → ℤ) → ((i s : ℤ) → σ (i +ℤ s) ≡ σ i +ℤ s) → (i : ℤ) → tap t d (λ j. X (σ j)) i ≡ tap t d X (σ i)
  unfolding tap
  tap_moved X σ h i = λ m. weighted t (X (h i (neg_ℤ (pos (2 * d))) m)) (X (h i (neg_ℤ (pos d)) m)) (X (σ i)) (X (h i (pos d) m)) (X (h i (pos (2 * d)) m))

  pub tap-turned : (X σ : ℤ → ℤ) → ((i s : ℤ) → σ (i +ℤ s) ≡ σ i -ℤ s) → (i : ℤ) → tap t d (λ j. X (σ j)) i ≡ tap t d X (σ i)
  unfolding tap
  tap-turned X σ h i =
      (λ m. weighted t (X (after (pos (2 * d)) m)) (X (after (pos d) m)) (X (σ i)) (X (h i (pos d) m)) (X (h i (pos (2 * d)) m)))
      ∙ weighted-turned t (X (σ i -ℤ pos (2 * d))) (X (σ i -ℤ pos d)) (X (σ i)) (X (σ i +ℤ pos d)) (X (σ i +ℤ pos (2 * d)))
    where
      after : (s : ℤ) → σ (i -ℤ s) ≡ σ i +ℤ s
      after s = h i (neg_ℤ s) ∙ ap (λ z. σ i +ℤ z) (neg_ℤ-neg_ℤ s)

  -- linear
  pub tap_add : (X Y : ℤ → ℤ) (i : ℤ) → tap t d (λ j. X j +ℤ Y j) i ≡ tap t d X i +ℤ tap t d Y i
  unfolding tap
  tap_add X Y i = weighted_add t _ _ _ _ _ _ _ _ _ _

  pub tap_times : (k : ℤ) (X : ℤ → ℤ) (i : ℤ) → tap t d (λ j. k *ℤ X j) i ≡ k *ℤ tap t d X i
  unfolding tap
  tap_times k X i = weighted_times t k _ _ _ _ _

-- ---- the two directions of an endless plane commute
pub tap-tap : (t s : Taps) (d e : ℕ) (X : ℤ → ℤ → ℤ) (i j : ℤ) → tap t d (λ c. tap s e (λ r. X r c) i) j ≡ tap s e (λ r. tap t d (X r) j) i
unfolding tap weighted
tap-tap t s d e X i j =
    tap_add t d (λ c. s.centre *ℤ X i c +ℤ s.near *ℤ (X (i -ℤ pos e) c +ℤ X (i +ℤ pos e) c)) (λ c. s.far *ℤ (X (i -ℤ pos (2 * e)) c +ℤ X (i +ℤ pos (2 * e)) c)) j
    ∙ (λ m. first m +ℤ pair s.far (pos (2 * e)) m)
  where
    pair : (f a : ℤ) → tap t d (λ c. f *ℤ (X (i -ℤ a) c +ℤ X (i +ℤ a) c)) j ≡ f *ℤ (tap t d (X (i -ℤ a)) j +ℤ tap t d (X (i +ℤ a)) j)
    pair f a = tap_times t d f (λ c. X (i -ℤ a) c +ℤ X (i +ℤ a) c) j ∙ ap (λ z. f *ℤ z) (tap_add t d (X (i -ℤ a)) (X (i +ℤ a)) j)

    first : tap t d (λ c. s.centre *ℤ X i c +ℤ s.near *ℤ (X (i -ℤ pos e) c +ℤ X (i +ℤ pos e) c)) j
        ≡ s.centre *ℤ tap t d (X i) j +ℤ s.near *ℤ (tap t d (X (i -ℤ pos e)) j +ℤ tap t d (X (i +ℤ pos e)) j)
    first = tap_add t d (λ c. s.centre *ℤ X i c) (λ c. s.near *ℤ (X (i -ℤ pos e) c +ℤ X (i +ℤ pos e) c)) j ∙ (λ m. tap_times t d s.centre (X i) j m +ℤ pair s.near (pos e) m)

-- ---- a line that is split and joined: at place 0, with taps next to each other, one linear equation in nine atoms
tap_linear : Taps → (ℤ → Linear) → ℤ → Linear
tap_linear t X i = weighted_linear t (X (i -ℤ pos 2)) (X (i -ℤ pos 1)) (X i) (X (i +ℤ pos 1)) (X (i +ℤ pos 2))

-- the atoms 0, −1, 1, −2, 2, …
place : ℤ → Linear
place (pos n) = atom (2 * n)
place (negsuc n) = atom (2 * n + 1)

whole_at_0 : (z : ℤ → ℤ) → tap low_join 1 (tap low_split 1 z) (pos 0) +ℤ tap high_join 1 (tap high_split 1 z) (pos 0) ≡ pos 32 *ℤ z (pos 0)
unfolding tap weighted low_split high_split low_join high_join tap_linear place
whole_at_0 z =
    linear (z (pos 0) ∷ z (negsuc 0) ∷ z (pos 1) ∷ z (negsuc 1) ∷ z (pos 2) ∷ z (negsuc 2) ∷ z (pos 3) ∷ z (negsuc 3) ∷ z (pos 4) ∷ [])
    (tap_linear low_join (tap_linear low_split place) (pos 0) ⊕ tap_linear high_join (tap_linear high_split place) (pos 0)) (pos 32 ⊛ x₀) tt

-- every d-th place, numbered from i on
every : ℕ → (ℤ → ℤ) → ℤ → ℤ → ℤ
every d X i j = X (i +ℤ j *ℤ pos d)

tap_every : (t : Taps) (d : ℕ) (X : ℤ → ℤ) (i j : ℤ) → tap t 1 (every d X i) j ≡ tap t d X (i +ℤ j *ℤ pos d)
unfolding tap every
tap_every t d X i j = λ m. weighted t (X (step (neg_ℤ (pos 2)) (neg_ℤ (pos (2 * d))) (negℤ_*ℤ (pos 2) (pos d)) m)) (X (step (neg_ℤ (pos 1)) (neg_ℤ (pos d)) minus m)) (X o) (X (step (pos 1) (pos d) one m)) (X (step (pos 2) (pos (2 * d)) refl m))
  where
    o : ℤ
    o = i +ℤ j *ℤ pos d

    one : pos 1 *ℤ pos d ≡ pos d
    one = ap pos (omega arith)

    minus : neg_ℤ (pos 1) *ℤ pos d ≡ neg_ℤ (pos d)
    minus = negℤ_*ℤ (pos 1) (pos d) ∙ ap neg_ℤ one

    step : (a s : ℤ) → a *ℤ pos d ≡ s → i +ℤ (j +ℤ a) *ℤ pos d ≡ o +ℤ s
    step a s e = ap (λ z. i +ℤ z) (+ℤ_*ℤ j a (pos d)) ∙ sym (+ℤ_assoc i (j *ℤ pos d) (a *ℤ pos d)) ∙ ap (λ z. o +ℤ z) e

-- split and joined, an endless line is there 32 times
pub whole-line : (d : ℕ) (X : ℤ → ℤ) (i : ℤ) → tap low_join d (tap low_split d X) i +ℤ tap high_join d (tap high_split d X) i ≡ pos 32 *ℤ X i
unfolding every
whole-line d X i = (λ m. part low_join low_split m +ℤ part high_join high_split m) ∙ whole_at_0 (every d X i) ∙ ap (λ z. pos 32 *ℤ X z) here
  where
    here : i +ℤ pos 0 *ℤ pos d ≡ i
    here = ap (λ z. i +ℤ z) (zero-*ℤ (pos d)) ∙ +ℤ_idr i

    part : (t s : Taps) → tap t d (tap s d X) i ≡ tap t 1 (tap s 1 (every d X i)) (pos 0)
    part t s =
        ap (tap t d (tap s d X)) (sym here) ∙ sym (tap_every t d (tap s d X) i (pos 0))
        ∙ tap_cong t 1 (every d (tap s d X) i) (tap s 1 (every d X i)) (λ j. sym (tap_every s d X i j)) (pos 0)
