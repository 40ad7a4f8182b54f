-- The laws of the reflection at a border. Assumes nothing.
use mathlib.Core.Path.{◌≡◌, refl, sym, ◌∙◌, ap, subst}
use mathlib.Core.List.{[], ◌∷◌}
use Prim.Native.Nat.{ℕ, zero, suc, ◌+◌, ◌*◌, ◌-◌, ◌/◌, ◌%◌, ◌≤◌, ◌<◌, min, max}
use native.Mathlib.Decide.{dec_lt, dec_le}
use native.Mathlib.Nat.{mod-lt, mod-eq_of_lt, add-mod_right, mod-add-div', div-add-mod', mod-one, zero-mod, mod_self, suc-mul, add-zero}
use native.Mathlib.Omega.{arith}
use lib.Arith.{digits_mod}
use lib.IntN.{ℤ, pos, negsuc, neg_ℤ, nat_abs, ◌+ℤ◌, ◌-ℤ◌}
use borrow.Author.Tests.{lt-ltb, le-ltb}
use Rattle.integers.proofs.Bounds.{abs_neg, minus_pos, minus_neg, abs_minus}
use Rattle.integers.proofs.Linear.{linear, x₀, x₁, x₂, neg, ◌⊕◌, ◌⊖◌}
use Rattle.border.specs.Border.{reflect, until_inside}

-- ---- the reflection by a remainder
-- after how many places a reflected line repeats: 2·(n − 1), and 1 for a line of one
unfoldable pub period : ℕ → ℕ
period n = max 1 (2 * (n - 1))

-- an index below the period, reflected about n − 1 at most once
unfoldable pub fold : ℕ → ℕ → ℕ
fold n m = min m (2 * (n - 1) - m)

pub period_pos : (n : ℕ) → 0 < period n
unfolding period
period_pos n = omega arith

pub period_is : (n : ℕ) → 2 ≤ n → period n ≡ 2 * (n - 1)
unfolding period
period_is n h = omega arith

fold_low : (n m : ℕ) → m < n → fold n m ≡ m
unfolding fold
fold_low n m h = omega arith

fold_high : (n m : ℕ) → n ≤ m → fold n m ≡ 2 * (n - 1) - m
unfolding fold
fold_high n m h = omega arith

-- either case, as facts
fold_cases : (n m : ℕ) (G : Type 0) → (m < n → fold n m ≡ m → G) → (n ≤ m → fold n m ≡ 2 * (n - 1) - m → G) → G
fold_cases n m G f g = go (dec_lt m n)
  where
    go : Dec (m < n) → G
    go (yes h) = f h (fold_low n m h)
    go (no h) = let l : n ≤ m = omega arith in g l (fold_high n m l)

folded : ℕ → ℕ → ℕ
folded n m = fold n (m % period n)

folded_inside : (n m : ℕ) → m < n → folded n m ≡ m
unfolding folded period
folded_inside n m h =
    let b : m < period n = omega arith in
    rw (mod-eq_of_lt b) (fold_low n m h)

folded_again : (n m : ℕ) → folded n (m + period n) ≡ folded n m
unfolding folded
folded_again n m = rw add-mod_right

-- ---- the definition's steps come to that
module _ (n : ℕ) where
  stays : (steps m : ℕ) → m < suc (suc n) → until_inside (suc steps) (suc (suc n)) (pos m) ≡ m
  unfolding until_inside
  stays steps m h = rw (lt-ltb m (suc (suc n)) h, until_inside)

  goes_on : (steps m : ℕ) → suc (suc n) ≤ m → until_inside (suc steps) (suc (suc n)) (pos m) ≡ until_inside steps (suc (suc n)) (pos (2 * (suc (suc n) - 1)) -ℤ pos m)
  unfolding until_inside
  goes_on steps m h = rw (le-ltb m (suc (suc n)) h, until_inside)

  about_zero : (steps m : ℕ) → until_inside (suc steps) (suc (suc n)) (negsuc m) ≡ until_inside steps (suc (suc n)) (pos (suc m))
  unfolding until_inside
  about_zero steps m = refl

  -- one reflection about n − 1 brings it inside
  folded_once : (m : ℕ) → suc (suc n) ≤ m → m ≤ 2 * (suc (suc n) - 1) → 2 * (suc (suc n) - 1) - m ≡ folded (suc (suc n)) m
  folded_once m h l = go (dec_lt m (2 * (suc (suc n) - 1)))
    where
      go : Dec (m < 2 * (suc (suc n) - 1)) → 2 * (suc (suc n) - 1) - m ≡ folded (suc (suc n)) m
      go (yes b) = unfold folded in rw (period_is (suc (suc n)) (omega arith), mod-eq_of_lt b) (sym (fold_high (suc (suc n)) m h))
      go (no b) = unfold folded fold in rw (period_is (suc (suc n)) (omega arith), sym (at_period m (omega arith))) (omega arith)
        where
          at_period : (m : ℕ) → m ≡ 2 * (suc (suc n) - 1) → 0 ≡ m % (2 * (suc (suc n) - 1))
          at_period m e = sym (ap (λ (k : ℕ). k % (2 * (suc (suc n) - 1))) e ∙ mod_self (2 * (suc (suc n) - 1)))

  until_inside_is : (steps m : ℕ) → m < steps → until_inside steps (suc (suc n)) (pos m) ≡ folded (suc (suc n)) m
  until_inside_is zero m h = absurd (omega arith)
  until_inside_is (suc zero) m h = stays zero m (omega arith) ∙ sym (folded_inside (suc (suc n)) m (omega arith))
  until_inside_is (suc (suc steps)) m h = go (dec_lt m (suc (suc n))) (dec_le m (2 * (suc (suc n) - 1))) (λ l. until_inside_is steps (m - 2 * (suc (suc n) - 1)) (omega arith))
    where
      go : Dec (m < suc (suc n)) → Dec (m ≤ 2 * (suc (suc n) - 1))
          → (2 * (suc (suc n) - 1) < m → until_inside steps (suc (suc n)) (pos (m - 2 * (suc (suc n) - 1))) ≡ folded (suc (suc n)) (m - 2 * (suc (suc n) - 1)))
          → until_inside (suc (suc steps)) (suc (suc n)) (pos m) ≡ folded (suc (suc n)) m
      go (yes a) b r = stays (suc steps) m a ∙ sym (folded_inside (suc (suc n)) m a)
      go (no a) (yes b) r =
          goes_on (suc steps) m (omega arith) ∙ ap (until_inside (suc steps) (suc (suc n))) (minus_pos (2 * (suc (suc n) - 1)) m b)
          ∙ stays steps (2 * (suc (suc n) - 1) - m) (omega arith) ∙ folded_once m (omega arith) b
      go (no a) (no b) r =
          goes_on (suc steps) m (omega arith) ∙ ap (until_inside (suc steps) (suc (suc n))) (minus_neg (2 * (suc (suc n) - 1)) m (omega arith))
          ∙ about_zero steps (m - suc (2 * (suc (suc n) - 1))) ∙ ap (λ (k : ℕ). until_inside steps (suc (suc n)) (pos k)) again ∙ r (omega arith)
          ∙ sym (folded_again (suc (suc n)) (m - 2 * (suc (suc n) - 1))) ∙ ap (folded (suc (suc n))) (far (period_is (suc (suc n)) (omega arith)))
        where
          again : suc (m - suc (2 * (suc (suc n) - 1))) ≡ m - 2 * (suc (suc n) - 1)
          again = omega arith

          far : period (suc (suc n)) ≡ 2 * (suc (suc n) - 1) → m - 2 * (suc (suc n) - 1) + period (suc (suc n)) ≡ m
          far e = omega arith

-- the place that index i of a line of n means, by a remainder
pub reflect_is : (n : ℕ) (i : ℤ) → reflect n i ≡ fold n (nat_abs i % period n)
unfolding reflect folded
reflect_is zero i = unfold fold period in rw (mod-one (nat_abs i))
reflect_is (suc zero) i = unfold fold period in rw (mod-one (nat_abs i))
reflect_is (suc (suc n)) (pos m) = until_inside_is n (m + 2) m (omega arith)
reflect_is (suc (suc n)) (negsuc m) =
    ap (λ (k : ℕ). until_inside k (suc (suc n)) (negsuc m)) steps ∙ about_zero n (suc (suc m)) m ∙ until_inside_is n (suc (suc m)) (suc m) (omega arith)
  where
    steps : suc m + 2 ≡ suc (suc (suc m))
    steps = omega arith

-- ---- inside
pub reflect_lt : (n : ℕ) → 0 < n → (i : ℤ) → reflect n i < n
reflect_lt n some i = rw (reflect_is n i) (fold_lt (nat_abs i % period n) (mod-lt (nat_abs i) (period_pos n)))
  where
    fold_lt : (m : ℕ) → m < period n → fold n m < n
    fold_lt m b = unfold period in fold_cases n m (fold n m < n) (λ h e. omega arith) (λ h e. omega arith)

pub reflect_inside : (n i : ℕ) → i < n → reflect n (pos i) ≡ i
unfolding folded
reflect_inside n i h = reflect_is n (pos i) ∙ folded_inside n i h

pub reflect_one : (i : ℤ) → reflect 1 i ≡ 0
unfolding reflect
reflect_one i = refl

-- ---- even, and periodic
pub reflect_neg : (n : ℕ) (i : ℤ) → reflect n (neg_ℤ i) ≡ reflect n i
reflect_neg n i = reflect_is n (neg_ℤ i) ∙ ap (λ (m : ℕ). fold n (m % period n)) (abs_neg i) ∙ sym (reflect_is n i)

-- so only the distance from 0 counts
pub reflect-abs : (n : ℕ) (i : ℤ) → reflect n (pos (nat_abs i)) ≡ reflect n i
reflect-abs n (pos m) = refl
reflect-abs n (negsuc m) = reflect_neg n (negsuc m)

-- two indices that add up to the period
folded_flip : (n a b : ℕ) → a + b ≡ period n → folded n a ≡ folded n b
folded_flip n zero b e = unfold folded in ap (fold n) (zero-mod (period n) ∙ sym (mod_self (period n)) ∙ ap (λ (x : ℕ). x % period n) whole)
  where
    whole : period n ≡ b
    whole = omega arith
folded_flip n (suc a) zero e = unfold folded in ap (fold n) (ap (λ (x : ℕ). x % period n) whole ∙ mod_self (period n) ∙ sym (zero-mod (period n)))
  where
    whole : suc a ≡ period n
    whole = omega arith
folded_flip n (suc a) (suc b) e =
    unfold folded in
    let p : suc a < period n = omega arith in
    let q : suc b < period n = omega arith in
    rw (mod-eq_of_lt p, mod-eq_of_lt q) flip
  where
    flip : fold n (suc a) ≡ fold n (suc b)
    flip = unfold period in
        fold_cases n (suc a) (fold n (suc a) ≡ fold n (suc b))
        (λ p f. fold_cases n (suc b) (fold n (suc a) ≡ fold n (suc b)) (λ q g. omega arith) (λ q g. omega arith))
        (λ p f. fold_cases n (suc b) (fold n (suc a) ≡ fold n (suc b)) (λ q g. omega arith) (λ q g. omega arith))

pub reflect_period : (n : ℕ) (i : ℤ) → reflect n (i +ℤ pos (period n)) ≡ reflect n i
unfolding folded
reflect_period n (pos a) = reflect_is n (pos (a + period n)) ∙ folded_again n a ∙ sym (reflect_is n (pos a))
reflect_period n (negsuc a) = reflect_is n (negsuc a +ℤ pos (period n)) ∙ go (dec_lt (period n) (suc a)) ∙ sym (reflect_is n (negsuc a))
  where
    swapped : negsuc a +ℤ pos (period n) ≡ pos (period n) -ℤ pos (suc a)
    swapped = linear (pos (suc a) ∷ pos (period n) ∷ []) (neg x₀ ⊕ x₁) (x₁ ⊖ x₀) tt

    go : Dec (period n < suc a) → folded n (nat_abs (negsuc a +ℤ pos (period n))) ≡ folded n (suc a)
    go (yes h) =
        ap (λ (z : ℤ). folded n (nat_abs z)) (swapped ∙ minus_neg (period n) (suc a) h)
        ∙ sym (folded_again n (suc (suc a - suc (period n)))) ∙ ap (folded n) (omega arith)
    go (no h) =
        ap (λ (z : ℤ). folded n (nat_abs z)) (swapped ∙ minus_pos (period n) (suc a) (omega arith))
        ∙ folded_flip n (period n - suc a) (suc a) (omega arith)

-- ---- a function that is even and periodic is unchanged by reflecting its index
module _ {A : Type 0} (n : ℕ) (some : 0 < n) (Y : ℤ → A) (even : (i : ℤ) → Y (neg_ℤ i) ≡ Y i) (again : (i : ℤ) → Y (i +ℤ pos (period n)) ≡ Y i) where
  Y_periods : (q r : ℕ) → Y (pos (r + q * period n)) ≡ Y (pos r)
  Y_periods zero r = ap (λ (m : ℕ). Y (pos m)) (omega arith)
  Y_periods (suc q) r = ap (λ (m : ℕ). Y (pos m)) (omega arith) ∙ again (pos (r + q * period n)) ∙ Y_periods q r

  Y_rest : (m : ℕ) → Y (pos (m % period n)) ≡ Y (pos m)
  Y_rest m = sym (Y_periods (m / period n) (m % period n)) ∙ ap (λ (x : ℕ). Y (pos x)) (mod-add-div' m (period n))

  Y_abs : (i : ℤ) → Y (pos (nat_abs i)) ≡ Y i
  Y_abs (pos m) = refl
  Y_abs (negsuc m) = even (negsuc m)

  Y_flip : (a b : ℕ) → a + b ≡ period n → Y (pos a) ≡ Y (pos b)
  Y_flip a b e =
      ap Y (linear (pos a ∷ pos b ∷ []) x₀ (neg x₁ ⊕ (x₀ ⊕ x₁)) tt ∙ ap (λ (m : ℕ). neg_ℤ (pos b) +ℤ pos m) e)
      ∙ again (neg_ℤ (pos b)) ∙ even (pos b)

  Y_fold : (m : ℕ) → m < period n → Y (pos (fold n m)) ≡ Y (pos m)
  unfolding period
  Y_fold m h = fold_cases n m (Y (pos (fold n m)) ≡ Y (pos m)) (λ l e. ap (λ (x : ℕ). Y (pos x)) e) (λ l e. Y_flip (fold n m) m (omega arith))

  pub reflect_fixes : (i : ℤ) → Y (pos (reflect n i)) ≡ Y i
  reflect_fixes i =
      ap (λ (m : ℕ). Y (pos m)) (reflect_is n i) ∙ Y_fold (nat_abs i % period n) (mod-lt (nat_abs i) (period_pos n)) ∙ Y_rest (nat_abs i) ∙ Y_abs i

-- ---- the mirror: reflecting n − 1 − i
pub reflect_mirror : (n : ℕ) → 0 < n → (i : ℤ) → reflect n (pos (n - 1) -ℤ i) ≡ (n - 1) - reflect n i
reflect_mirror zero some i = elim some [ ]
reflect_mirror (suc zero) some i = reflect_one (pos (1 - 1) -ℤ i) ∙ sym (ap (λ (x : ℕ). 1 - 1 - x) (reflect_one i))
reflect_mirror (suc (suc n)) some i =
    sym (reflect_fixes N some Y even again i) ∙ ap (reflect N) (minus_pos (N - 1) (reflect N i) inside) ∙ reflect_inside N (N - 1 - reflect N i) (omega (arith, reflect_lt N some i))
  where
    N : ℕ
    N = suc (suc n)

    Y : ℤ → ℕ
    Y j = reflect N (pos (N - 1) -ℤ j)

    inside : reflect N i ≤ N - 1
    inside = omega (arith, reflect_lt N some i)

    twice : pos (period N) ≡ pos (N - 1) +ℤ pos (N - 1)
    twice = ap pos (period_is N (omega arith) ∙ omega arith)

    even : (j : ℤ) → Y (neg_ℤ j) ≡ Y j
    even j =
        sym (reflect_neg N (pos (N - 1) -ℤ neg_ℤ j)) ∙ sym (reflect_period N (neg_ℤ (pos (N - 1) -ℤ neg_ℤ j)))
        ∙ ap (reflect N) (ap (λ (p : ℤ). neg_ℤ (pos (N - 1) -ℤ neg_ℤ j) +ℤ p) twice ∙ linear (pos (N - 1) ∷ j ∷ []) (neg (x₀ ⊖ neg x₁) ⊕ (x₀ ⊕ x₀)) (x₀ ⊖ x₁) tt)

    again : (j : ℤ) → Y (j +ℤ pos (period N)) ≡ Y j
    again j =
        sym (reflect_period N (pos (N - 1) -ℤ (j +ℤ pos (period N))))
        ∙ ap (reflect N) (linear (pos (N - 1) ∷ j ∷ pos (period N) ∷ []) ((x₀ ⊖ (x₁ ⊕ x₂)) ⊕ x₂) (x₀ ⊖ x₁) tt)

-- ---- parity is kept, so colours stay right
parity_rest : (r q h m : ℕ) → r + q * (2 * h) ≡ m → r % 2 ≡ m % 2
parity_rest r q h m e = omega arith

parity_fold : (n m : ℕ) → m < 2 * (n - 1) → fold n m % 2 ≡ m % 2
parity_fold n m b = fold_cases n m (fold n m % 2 ≡ m % 2) (λ h e. omega arith) (λ h e. omega arith)

pub reflect_parity : (n : ℕ) → 2 ≤ n → (i : ℤ) → reflect n i % 2 ≡ nat_abs i % 2
reflect_parity n h i =
    ap (λ (x : ℕ). x % 2) (reflect_is n i) ∙ parity_fold n rest below
    ∙ parity_rest rest (nat_abs i / period n) (n - 1) (nat_abs i) (subst (λ (p : ℕ). rest + nat_abs i / period n * p ≡ nat_abs i) whole (mod-add-div' (nat_abs i) (period n)))
  where
    rest : ℕ
    rest = nat_abs i % period n

    whole : period n ≡ 2 * (n - 1)
    whole = period_is n h

    below : rest < 2 * (n - 1)
    below = subst (λ (p : ℕ). rest < p) whole (mod-lt (nat_abs i) (period_pos n))

-- ---- as the code has it: an index at or above n, by the remainder at 2·(n − 1)
pub reflect_low : (n i : ℕ) → 2 ≤ n → i % (2 * (n - 1)) < n → reflect n (pos i) ≡ i % (2 * (n - 1))
reflect_low n i h l = reflect_is n (pos i) ∙ ap (λ (p : ℕ). fold n (i % p)) (period_is n h) ∙ fold_low n (i % (2 * (n - 1))) l

pub reflect_high : (n i : ℕ) → 2 ≤ n → n ≤ i % (2 * (n - 1)) → reflect n (pos i) ≡ 2 * (n - 1) - i % (2 * (n - 1))
reflect_high n i h l = reflect_is n (pos i) ∙ ap (λ (p : ℕ). fold n (i % p)) (period_is n h) ∙ fold_high n (i % (2 * (n - 1))) l

-- and i − b by how far apart the two are
pub reflect_apart : (n i b : ℕ) → reflect n (pos ((i - b) + (b - i))) ≡ reflect n (pos i -ℤ pos b)
reflect_apart n i b = ap (λ (k : ℕ). reflect n (pos k)) (sym (abs_minus i b)) ∙ reflect-abs n (pos i -ℤ pos b)

-- ---- a place k steps away means a place at most k steps away
-- a remainder goes on by one, or begins again
mod_next : (m p : ℕ) → 0 < p → (G : Type 0) → (suc m % p ≡ suc (m % p) → G) → (suc m % p ≡ 0 → suc (m % p) ≡ p → G) → G
mod_next m p some G f g = go (dec_lt (suc (m % p)) p)
  where
    whole : m / p * p + m % p ≡ m
    whole = div-add-mod' m p

    go : Dec (suc (m % p) < p) → G
    go (yes h) = f (ap (λ (x : ℕ). x % p) next ∙ digits_mod (m / p) h)
      where
        next : suc m ≡ m / p * p + suc (m % p)
        next = omega (arith, whole)
    go (no h) = g (ap (λ (x : ℕ). x % p) next ∙ digits_mod (suc (m / p)) some) last
      where
        last : suc (m % p) ≡ p
        last = omega (arith, h, mod-lt m some)

        next : suc m ≡ suc (m / p) * p + 0
        next = omega (arith, whole, last, suc-mul (m / p) p)

-- one step
reflect_next : (n m : ℕ) → 0 < n → (reflect n (pos (suc m)) ≤ suc (reflect n (pos m))) × (reflect n (pos m) ≤ suc (reflect n (pos (suc m))))
reflect_next n m some = rw (reflect_is n (pos (suc m)), reflect_is n (pos m)) (mod_next m (period n) (period_pos n) (Near (suc m % period n) (m % period n)) (λ e. rw e (on (m % period n))) (λ e f. rw e (again (m % period n) f)))
  where
    Near : ℕ → ℕ → Type 0
    Near a b = (fold n a ≤ suc (fold n b)) × (fold n b ≤ suc (fold n a))

    on : (k : ℕ) → Near (suc k) k
    on k = unfold fold in (omega arith, omega arith)

    again : (k : ℕ) → suc k ≡ period n → Near 0 k
    again k e = unfold fold period in (omega arith, omega arith)

pub reflect-after : (n i k : ℕ) → i < n → (i ≤ reflect n (pos (i + k)) + k) × (reflect n (pos (i + k)) ≤ i + k)
reflect-after n i zero h = let e : reflect n (pos (i + 0)) ≡ i = ap (λ (x : ℕ). reflect n (pos x)) (add-zero i) ∙ reflect_inside n i h in (omega arith, omega arith)
reflect-after n i (suc k) h =
    let q = reflect-after n i k h in
    let s = reflect_next n (i + k) (omega arith) in
    let e : i + suc k ≡ suc (i + k) = omega arith in
    rw e (omega (arith, q.0, s.1), omega (arith, q.1, s.0))

pub reflect_before : (n i k : ℕ) → i < n → (i ≤ reflect n (pos i -ℤ pos k) + k) × (reflect n (pos i -ℤ pos k) ≤ i + k)
reflect_before n i k h = go (dec_le k i)
  where
    go : Dec (k ≤ i) → (i ≤ reflect n (pos i -ℤ pos k) + k) × (reflect n (pos i -ℤ pos k) ≤ i + k)
    go (yes b) =
        let d : (i - k) + (k - i) ≡ i - k = omega arith in
        let e : reflect n (pos i -ℤ pos k) ≡ i - k = sym (reflect_apart n i k) ∙ ap (λ (x : ℕ). reflect n (pos x)) d ∙ reflect_inside n (i - k) (omega arith) in
        (omega arith, omega arith)
    go (no b) =
        let q = reflect-after n 0 (k - i) (omega arith) in
        let d : 0 + (k - i) ≡ (i - k) + (k - i) = omega arith in
        let e : reflect n (pos (0 + (k - i))) ≡ reflect n (pos i -ℤ pos k) = ap (λ (x : ℕ). reflect n (pos x)) d ∙ reflect_apart n i k in
        (omega arith, omega (arith, q.1))
