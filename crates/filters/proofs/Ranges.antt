-- How large the bank's numbers grow: split within 16·m, over a ceiling m; join within 144 times the sum of the four bands' ceilings.
-- Assumes nothing.
use mathlib.Core.Path.{sym, subst}
use Prim.Native.Nat.{ℕ, ◌+◌, ◌*◌, ◌≤◌, ◌<◌}
use native.Mathlib.Omega.{arith}
use native.Mathlib.Nat.{le_trans, mul-le-mul_left}
use lib.IntN.{ℤ, nat_abs, ◌+ℤ◌, ◌*ℤ◌}
use Rattle.integers.proofs.Bounds.{abs_add, abs_mul}
use Rattle.border.specs.Border.{reflect}
use Rattle.border.proofs.Reflection.{reflect_lt}
use Rattle.filters.specs.Bank.{Taps, weighted, tap, along, along_rows, along_columns, filtered, Bands, split, join, low_split, high_split, low_join, high_join}

-- the sum of the taps without their signs
unfoldable pub gain : Taps → ℕ
gain t = nat_abs t.centre + 2 * nat_abs t.near + 2 * nat_abs t.far

pub weighted_range : (t : Taps) (m : ℕ) (a b c d e : ℤ) → nat_abs a ≤ m → nat_abs b ≤ m → nat_abs c ≤ m → nat_abs d ≤ m → nat_abs e ≤ m → nat_abs (weighted t a b c d e) ≤ gain t * m
unfolding weighted gain
weighted_range t m a b c d e ha hb hc hd he =
    sums (nat_abs t.centre) (nat_abs t.near) (nat_abs t.far) _ _ _ _ _ (abs_add (A +ℤ B) C) (abs_add A B)
    (scaled t.centre c m hc) (scaled t.near (b +ℤ d) (m + m) (omega (arith, abs_add b d))) (scaled t.far (a +ℤ e) (m + m) (omega (arith, abs_add a e)))
  where
    A : ℤ
    A = t.centre *ℤ c

    B : ℤ
    B = t.near *ℤ (b +ℤ d)

    C : ℤ
    C = t.far *ℤ (a +ℤ e)

    scaled : (f x : ℤ) (k : ℕ) → nat_abs x ≤ k → nat_abs (f *ℤ x) ≤ nat_abs f * k
    scaled f x k h = subst (λ (n : ℕ). n ≤ nat_abs f * k) (sym (abs_mul f x)) (mul-le-mul_left (nat_abs f) h)

    sums : (c n f s u x y z : ℕ) → s ≤ u + z → u ≤ x + y → x ≤ c * m → y ≤ n * (m + m) → z ≤ f * (m + m) → s ≤ (c + 2 * n + 2 * f) * m
    sums c n f s u x y z h₁ h₂ h₃ h₄ h₅ = omega arith

pub along_range : (t : Taps) (d n m : ℕ) (line : ℕ → ℤ) → 0 < n → ((i : ℕ) → i < n → nat_abs (line i) ≤ m) → (i : ℕ) → nat_abs (along t d n line i) ≤ gain t * m
unfolding along tap
along_range t d n m line some b i = weighted_range t m _ _ _ _ _ (at _) (at _) (at _) (at _) (at _)
  where
    at : (j : ℤ) → nat_abs (line (reflect n j)) ≤ m
    at j = b (reflect n j) (reflect_lt n some j)

-- every place of a plane is within m
abbrev pub Within : ℕ → ℕ → ℕ → (ℕ → ℕ → ℤ) → Type 0
Within m w h p = (r c : ℕ) → r < h → c < w → nat_abs (p r c) ≤ m

module _ (d w h m : ℕ) (wide : 0 < w) (high : 0 < h) where
  pub filtered_range : (tr tc : Taps) (p : ℕ → ℕ → ℤ) → Within m w h p → Within (gain tc * (gain tr * m)) w h (filtered tr tc d w h p)
  unfolding filtered along_rows along_columns
  filtered_range tr tc p b r c hr hc =
      along_range tc d h (gain tr * m) (λ i. along tr d w (p i) c) high (λ i hi. along_range tr d w m (p i) wide (λ j hj. b i j hi hj) c) r

  pub split_range : (p : ℕ → ℕ → ℤ) → Within m w h p → (r c : ℕ) → r < h → c < w
      → let s = split d w h p r c in (nat_abs s.band1 ≤ 16 * m) × (nat_abs s.band2 ≤ 16 * m) × (nat_abs s.band3 ≤ 16 * m) × (nat_abs s.band4 ≤ 16 * m)
  unfolding split gain low_split high_split
  split_range p b r c hr hc = (
    le_trans (filtered_range low_split low_split p b r c hr hc) (omega arith),
    le_trans (filtered_range high_split low_split p b r c hr hc) (omega arith),
    le_trans (filtered_range low_split high_split p b r c hr hc) (omega arith),
    le_trans (filtered_range high_split high_split p b r c hr hc) (omega arith),
  )

-- each band has a ceiling of its own, and counts 144 times
pub join_range : (d w h : ℕ) → 0 < w → 0 < h → {m₁ m₂ m₃ m₄ : ℕ} (b : ℕ → ℕ → Bands ℤ)
    → Within m₁ w h (λ r c. (b r c).band1) → Within m₂ w h (λ r c. (b r c).band2) → Within m₃ w h (λ r c. (b r c).band3) → Within m₄ w h (λ r c. (b r c).band4)
    → Within (144 * (m₁ + m₂ + m₃ + m₄)) w h (join d w h b)
unfolding join gain low_join high_join
join_range d w h wide high {m₁} {m₂} {m₃} {m₄} b b₁ b₂ b₃ b₄ r c hr hc =
    sums _ _ _ _ _ _ _ (abs_add (A +ℤ B +ℤ C) D) (abs_add (A +ℤ B) C) (abs_add A B)
    (filtered_range d w h m₁ wide high low_join low_join _ b₁ r c hr hc) (filtered_range d w h m₂ wide high high_join low_join _ b₂ r c hr hc)
    (filtered_range d w h m₃ wide high low_join high_join _ b₃ r c hr hc) (filtered_range d w h m₄ wide high high_join high_join _ b₄ r c hr hc)
  where
    A : ℤ
    A = filtered low_join low_join d w h (λ i j. (b i j).band1) r c

    B : ℤ
    B = filtered high_join low_join d w h (λ i j. (b i j).band2) r c

    C : ℤ
    C = filtered low_join high_join d w h (λ i j. (b i j).band3) r c

    D : ℤ
    D = filtered high_join high_join d w h (λ i j. (b i j).band4) r c

    sums : (s u v a b c e : ℕ) → s ≤ u + e → u ≤ v + c → v ≤ a + b → a ≤ 12 * (12 * m₁) → b ≤ 12 * (12 * m₂) → c ≤ 12 * (12 * m₃) → e ≤ 12 * (12 * m₄) → s ≤ 144 * (m₁ + m₂ + m₃ + m₄)
    sums s u v a b c e h₁ h₂ h₃ h₄ h₅ h₆ h₇ = omega arith
