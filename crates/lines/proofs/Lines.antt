-- The laws of runs, of what the filters read along them, and of padded lines. Assumes nothing.
use mathlib.Core.Path.{◌≡◌, refl, sym, ◌∙◌, ap, subst}
use mathlib.Core.List.{List, [], ◌∷◌}
use Prim.Native.Nat.{ℕ, ◌+◌, ◌*◌, ◌-◌, ◌≤◌, ◌<◌}
use native.Mathlib.Decide.{dec_lt}
use native.Mathlib.Omega.{arith}
use lib.IntN.{ℤ, pos, nat_abs, ◌+ℤ◌, ◌-ℤ◌}
use lib.ListN.{length}
use lib.Seq.{ext_get_or}
use mir.Syntax.{w32}
use mir.Val.{to_z, of_z}
use mir.Facts.{to_z-of_z as back}
use Rattle.integers.specs.Lists.{overwrite}
use Rattle.integers.proofs.Linear.{linear, x₀, x₁, x₂, ◌⊕◌, ◌⊖◌}
use Rattle.integers.proofs.Bounds.{abs_read, fits_abs, minus_pos}
use Rattle.integers.proofs.Lists.{length-overwrite, overwrite_in, overwrite-after, overwrite_at, overwrite_again, overwrite_cong}
use Rattle.border.specs.Border.{reflect}
use Rattle.border.proofs.Reflection.{reflect_lt, reflect_inside}
use Rattle.planes.specs.Lists.{value}
use Rattle.filters.specs.Bank.{Taps, weighted, tap, along, low_join, high_join}
use Rattle.filters.proofs.Taps.{weighted-three}
use Rattle.filters.proofs.Ranges.{gain, weighted_range}
use Rattle.lines.specs.declared.Five.{Five}
use Rattle.lines.specs.Lines.{Run, Runs, spaced, three, five, joined, meant, padded}

-- ---- runs
-- a value of a run, as the machine reads it
abbrev read : List ℤ → ℕ → ℤ
read l k = to_z w32 (of_z w32 (value l k))

pub read_small : {m : ℕ} {l : List ℤ} {o n : ℕ} (b : ℕ) → m ≤ b → Run m l o n → (k : ℕ) → k < n → nat_abs (read l (o + k)) ≤ b
read_small {l = l} {o = o} b h run k i = omega (arith, abs_read w32 (value l (o + k)), run.small k i)

-- within a larger bound too
pub run_wider : {m most : ℕ} → m ≤ most → {l : List ℤ} {o n : ℕ} → Run m l o n → Run most l o n
run_wider h r = record { inside = r.inside; small = λ k i. omega (arith, h, r.small k i) }

pub read_value : {m : ℕ} {l : List ℤ} {o n : ℕ} → m < 2147483648 → Run m l o n → (k : ℕ) → k < n → read l (o + k) ≡ value l (o + k)
read_value {l = l} {o = o} h run k i = back (fits_abs w32 (value l (o + k)) (omega (arith, run.small k i)))

-- what stands before what was laid down, or after it, is as it was
pub outside : (l : List ℤ) (o n : ℕ) (f : ℕ → ℤ) (p : ℕ) → o + n ≤ length l → (o ≤ p → o + n ≤ p) → value (overwrite l o n f) p ≡ value l p
outside l o n f p h apart = overwrite_at l o n f p (pos 0) (value l p) h (λ b. refl) (λ i b e. absurd (let q : o + n ≤ p = apart (omega arith) in omega arith)) (λ b. refl)

-- what was laid down is a run, where its values are small
pub run_laid : (m : ℕ) (l : List ℤ) (o n : ℕ) (f : ℕ → ℤ) → o + n ≤ length l → ((k : ℕ) → k < n → nat_abs (f k) ≤ m) → Run m (overwrite l o n f) o n
run_laid m l o n f h b = record {
  inside = omega (arith, length-overwrite l o n f h);
  small = λ k i. omega (arith, ap nat_abs (overwrite_in l o n f k (pos 0) h i), b k i);
}

-- ---- three runs: what the filters read is small, what they make of it, and how far from 0 that is
module _ (t : Taps) {m : ℕ} {l : List ℤ} {a b c n : ℕ} (ra : Run m l a n) (rb : Run m l b n) (rc : Run m l c n) (k : ℕ) (i : k < n) where
  pub three_small : (most : ℕ) → m ≤ most → (nat_abs (read l (a + k)) ≤ most) × (nat_abs (read l (b + k)) ≤ most) × (nat_abs (read l (c + k)) ≤ most)
  three_small most h = (read_small most h ra k i, read_small most h rb k i, read_small most h rc k i)

  pub three_read : m < 2147483648 → weighted t (pos 0) (read l (a + k)) (read l (b + k)) (read l (c + k)) (pos 0) ≡ three t l a b c k
  unfolding three
  three_read h = λ x. weighted t (pos 0) (read_value h ra k i x) (read_value h rb k i x) (read_value h rc k i x) (pos 0)

  pub three_range : nat_abs (three t l a b c k) ≤ gain t * m
  unfolding three
  three_range = weighted_range t m _ _ _ _ _ (omega arith) (ra.small k i) (rb.small k i) (rc.small k i) (omega arith)

-- ---- and five
module _ (t : Taps) {m : ℕ} {l : List ℤ} {v : Five} {n : ℕ} (r : Runs m l v n) (k : ℕ) (i : k < n) where
  pub five_small : (most : ℕ) → m ≤ most
      → (nat_abs (read l (v.a + k)) ≤ most) × (nat_abs (read l (v.b + k)) ≤ most) × (nat_abs (read l (v.c + k)) ≤ most) × (nat_abs (read l (v.d + k)) ≤ most) × (nat_abs (read l (v.e + k)) ≤ most)
  five_small most h = (read_small most h r.first k i, read_small most h r.second k i, read_small most h r.third k i, read_small most h r.fourth k i, read_small most h r.fifth k i)

  pub five_read : m < 2147483648 → weighted t (read l (v.a + k)) (read l (v.b + k)) (read l (v.c + k)) (read l (v.d + k)) (read l (v.e + k)) ≡ five t l v k
  unfolding five
  five_read h = λ x. weighted t (read_value h r.first k i x) (read_value h r.second k i x) (read_value h r.third k i x) (read_value h r.fourth k i x) (read_value h r.fifth k i x)

  pub five_range : nat_abs (five t l v k) ≤ gain t * m
  unfolding five
  five_range = weighted_range t m _ _ _ _ _ (r.first.small k i) (r.second.small k i) (r.third.small k i) (r.fourth.small k i) (r.fifth.small k i)

-- ---- padded lines
module _ (n pad : ℕ) (some : 1 ≤ n) where
  pub meant_inside : (k : ℕ) → (pad ≤ meant n pad k) × (meant n pad k < pad + n)
  unfolding meant
  meant_inside k = (omega arith, omega (arith, reflect_lt n some (pos k -ℤ pos pad)))

  -- a place of the middle means itself
  meant_middle : (k : ℕ) → pad ≤ k → k < pad + n → meant n pad k ≡ k
  unfolding meant
  meant_middle k h i = ap (λ (z : ℤ). pad + reflect n z) (minus_pos k pad h) ∙ ap (λ (j : ℕ). pad + j) (reflect_inside n (k - pad) (omega arith)) ∙ omega arith

  module _ (l : List ℤ) (fit : pad + n + pad ≤ length l) where
    pub padded_at : (k : ℕ) → k < pad + n + pad → value (padded n pad l) k ≡ value l (meant n pad k)
    unfolding padded
    padded_at k h = ap (λ (j : ℕ). value (overwrite l 0 (pad + n + pad) (λ i. value l (meant n pad i))) j) start ∙ overwrite_in l 0 (pad + n + pad) (λ i. value l (meant n pad i)) k (pos 0) (omega arith) h
      where
        start : k ≡ 0 + k
        start = omega arith

    pub length-padded : length (padded n pad l) ≡ length l
    unfolding padded
    length-padded = length-overwrite l 0 (pad + n + pad) (λ i. value l (meant n pad i)) (omega arith)

    -- the one side and then the other
    pub padded_by : {first last : List ℤ} → first ≡ overwrite l 0 pad (λ k. value l (meant n pad (0 + k))) → last ≡ overwrite first (pad + n) pad (λ k. value first (meant n pad (pad + n + k))) → last ≡ padded n pad l
    padded_by {first} {last} e f =
        f ∙ ext_get_or (pos 0) (overwrite first (pad + n) pad G) (padded n pad l) (length-overwrite first (pad + n) pad G room ∙ long ∙ sym length-padded)
        (λ k h. overwrite_at first (pad + n) pad G k (pos 0) (value (padded n pad l) k) room (before k) (inside k) (after k))
      where
        F : ℕ → ℤ
        F k = value l (meant n pad (0 + k))

        G : ℕ → ℤ
        G k = value first (meant n pad (pad + n + k))

        long : length first ≡ length l
        long = ap length e ∙ length-overwrite l 0 pad F (omega arith)

        room : pad + n + pad ≤ length first
        room = omega (arith, long)

        -- past the first side, nothing has changed
        kept : (k : ℕ) → pad ≤ k → value first k ≡ value l k
        kept k h = ap (λ (x : List ℤ). value x k) e ∙ overwrite-after l 0 pad F k (pos 0) (omega arith) (omega arith)

        before : (k : ℕ) → k < pad + n → value first k ≡ value (padded n pad l) k
        before k h = go (dec_lt k pad)
          where
            go : Dec (k < pad) → value first k ≡ value (padded n pad l) k
            go (yes b) = ap (λ (x : List ℤ). value x k) e ∙ overwrite_at l 0 pad F k (pos 0) (value (padded n pad l) k) (omega arith) (λ z. absurd (omega arith)) (λ i j q. ap (λ (p : ℕ). value l (meant n pad p)) (sym q) ∙ sym (padded_at k (omega arith))) (λ z. absurd (omega arith))
            go (no b) = kept k (omega arith) ∙ ap (value l) (sym (meant_middle k (omega arith) h)) ∙ sym (padded_at k (omega arith))

        inside : (k i : ℕ) → i < pad → k ≡ pad + n + i → G i ≡ value (padded n pad l) k
        inside k i b q =
            kept (meant n pad (pad + n + i)) (meant_inside (pad + n + i)).0 ∙ ap (λ (p : ℕ). value l (meant n pad p)) (sym q) ∙ sym (padded_at k (omega arith))

        after : (k : ℕ) → pad + n + pad ≤ k → value first k ≡ value (padded n pad l) k
        after k h = kept k (omega arith) ∙ sym (unfold padded in overwrite-after l 0 (pad + n + pad) (λ i. value l (meant n pad i)) k (pos 0) (omega arith) (omega arith))

    -- s places after place k of the padded line stands what is s − pad places after place k of the line
    pub padded_near : (s k : ℕ) (i : ℤ) → s + k < pad + n + pad → pos k +ℤ (pos s -ℤ pos pad) ≡ i → value (padded n pad l) (s + k) ≡ value l (pad + reflect n i)
    unfolding meant
    padded_near s k i h e =
        padded_at (s + k) h ∙ ap (λ (z : ℤ). value l (pad + reflect n z)) (linear (pos s ∷ pos k ∷ pos pad ∷ []) ((x₀ ⊕ x₁) ⊖ x₂) (x₁ ⊕ (x₀ ⊖ x₂)) tt ∙ e)

    -- any m places of a padded line are a run where its middle is one
    pub run_padded : (m : ℕ) → Run m l pad n → (o k : ℕ) → o + k ≤ pad + n + pad → Run m (padded n pad l) o k
    run_padded m run o k h = record { inside = omega (arith, length-padded); small = λ i j. small i j }
      where
        small : (i : ℕ) → i < k → nat_abs (value (padded n pad l) (o + i)) ≤ m
        small i j =
            let q = meant_inside (o + i) in
            let b : nat_abs (value l (pad + (meant n pad (o + i) - pad))) ≤ m = run.small (meant n pad (o + i) - pad) (omega (arith, q.0, q.1)) in
            let back : pad + (meant n pad (o + i) - pad) ≡ meant n pad (o + i) = omega (arith, q.0) in
            omega (arith, ap nat_abs (padded_at (o + i) (omega arith)), ap (λ (p : ℕ). nat_abs (value l p)) back, b)

-- ---- the filters along a padded line are the filters along the line, with taps d places apart
-- s places on in a line that is padded by p: a before the place, at it, or a after it
back_by : (k a p s : ℕ) → p ≡ s + a → pos k +ℤ (pos s -ℤ pos p) ≡ pos k -ℤ pos a
back_by k a p s e = ap (λ (q : ℕ). pos k +ℤ (pos s -ℤ pos q)) e ∙ linear (pos k ∷ pos s ∷ pos a ∷ []) (x₀ ⊕ (x₁ ⊖ (x₁ ⊕ x₂))) (x₀ ⊖ x₂) tt

here_by : (k p s : ℕ) → s ≡ p → pos k +ℤ (pos s -ℤ pos p) ≡ pos k
here_by k p s e = ap (λ (q : ℕ). pos k +ℤ (pos q -ℤ pos p)) e ∙ linear (pos k ∷ pos p ∷ []) (x₀ ⊕ (x₁ ⊖ x₁)) x₀ tt

on_by : (k a p s : ℕ) → s ≡ p + a → pos k +ℤ (pos s -ℤ pos p) ≡ pos k +ℤ pos a
on_by k a p s e = ap (λ (q : ℕ). pos k +ℤ (pos q -ℤ pos p)) e ∙ linear (pos k ∷ pos p ∷ pos a ∷ []) (x₀ ⊕ ((x₁ ⊕ x₂) ⊖ x₁)) (x₀ ⊕ x₂) tt

-- three places of a line that is padded by d
module _ (d : ℕ) {n : ℕ} (some : 1 ≤ n) (l : List ℤ) {line : List ℤ} (fit : d + n + d ≤ length l) (e : line ≡ padded n d l) where
  pub three_runs : {m : ℕ} → Run m l d n → Run m line 0 n × Run m line d n × Run m line (2 * d) n
  three_runs {m} r =
      subst (λ (x : List ℤ). Run m x 0 n × Run m x d n × Run m x (2 * d) n) (sym e)
      (run_padded n d some l fit m r 0 n (omega arith), run_padded n d some l fit m r d n (omega arith), run_padded n d some l fit m r (2 * d) n (omega arith))

  pub three-along : (t : Taps) → t.far ≡ pos 0 → (k : ℕ) → k < n → three t line 0 d (2 * d) k ≡ along t d n (λ j. value l (d + j)) k
  unfolding three along tap
  three-along t z k h =
      (λ m. weighted t (pos 0) (at 0 (pos k -ℤ pos d) (omega arith) (back_by k d d 0 (omega arith)) m) (at d (pos k) (omega arith) (here_by k d d refl) m) (at (2 * d) (pos k +ℤ pos d) (omega arith) (on_by k d d (2 * d) (omega arith)) m) (pos 0))
      ∙ weighted-three t z (X (pos k -ℤ pos (2 * d))) (X (pos k -ℤ pos d)) (X (pos k)) (X (pos k +ℤ pos d)) (X (pos k +ℤ pos (2 * d)))
    where
      X : ℤ → ℤ
      X i = value l (d + reflect n i)

      at : (s : ℕ) (i : ℤ) → s + k < d + n + d → pos k +ℤ (pos s -ℤ pos d) ≡ i → value line (s + k) ≡ X i
      at s i b q = ap (λ (x : List ℤ). value x (s + k)) e ∙ padded_near n d some l fit s k i b q

-- five places of lines that are padded by p, which is 2·d
module _ (d : ℕ) {n : ℕ} (some : 1 ≤ n) {p : ℕ} (pad : p ≡ 2 * d) (l : List ℤ) {line : List ℤ} (fit : p + n + p ≤ length l) (e : line ≡ padded n p l) where
  pub five_runs : {m : ℕ} → Run m l p n → Runs m line (spaced d) n
  five_runs {m} r = subst (λ (x : List ℤ). Runs m x (spaced d) n) (sym e) (record {
    first = run_padded n p some l fit m r 0 n (omega arith);
    second = run_padded n p some l fit m r d n (omega arith);
    third = run_padded n p some l fit m r (2 * d) n (omega arith);
    fourth = run_padded n p some l fit m r (3 * d) n (omega arith);
    fifth = run_padded n p some l fit m r (4 * d) n (omega arith);
  })

  -- what stands at them, for place k
  pub record FivePlaces (k : ℕ) : Type 0 where
    pub far_back : value line (0 + k) ≡ value l (p + reflect n (pos k -ℤ pos (2 * d)))
    pub near_back : value line (d + k) ≡ value l (p + reflect n (pos k -ℤ pos d))
    pub here : value line (2 * d + k) ≡ value l (p + reflect n (pos k))
    pub near_on : value line (3 * d + k) ≡ value l (p + reflect n (pos k +ℤ pos d))
    pub far_on : value line (4 * d + k) ≡ value l (p + reflect n (pos k +ℤ pos (2 * d)))

  pub five_places : (k : ℕ) → k < n → FivePlaces k
  five_places k h = record {
    far_back = at 0 (pos k -ℤ pos (2 * d)) (omega arith) (back_by k (2 * d) p 0 (omega arith));
    near_back = at d (pos k -ℤ pos d) (omega arith) (back_by k d p d (omega arith));
    here = at (2 * d) (pos k) (omega arith) (here_by k p (2 * d) (sym pad));
    near_on = at (3 * d) (pos k +ℤ pos d) (omega arith) (on_by k d p (3 * d) (omega arith));
    far_on = at (4 * d) (pos k +ℤ pos (2 * d)) (omega arith) (on_by k (2 * d) p (4 * d) (omega arith));
  }
    where
      at : (s : ℕ) (i : ℤ) → s + k < p + n + p → pos k +ℤ (pos s -ℤ pos p) ≡ i → value line (s + k) ≡ value l (p + reflect n i)
      at s i b q = ap (λ (x : List ℤ). value x (s + k)) e ∙ padded_near n p some l fit s k i b q

  pub five-along : (t : Taps) (k : ℕ) → k < n → five t line (spaced d) k ≡ along t d n (λ j. value l (p + j)) k
  unfolding five along tap
  five-along t k h = let q = five_places k h in λ m. weighted t (q.far_back m) (q.near_back m) (q.here m) (q.near_on m) (q.far_on m)

-- ---- as the calls leave them
-- five lines through the low join filter, and then five through the high one added
module _ {low : List ℤ} {v : Five} {n : ℕ} (r : Runs 67108864 low v n) (out : List ℤ) (at : ℕ) (room : at + n ≤ length out) {first : List ℤ} (laid : first ≡ overwrite out at n (five low_join low v)) where
  pub run_first : Run 805306368 first at n
  unfolding gain low_join
  run_first = subst (λ (l : List ℤ). Run 805306368 l at n) (sym laid) (run_laid 805306368 out at n (five low_join low v) room (λ k i. five_range low_join r k i))

  pub joined_laid : (high : List ℤ) {last : List ℤ} → last ≡ overwrite first at n (λ k. value first (at + k) +ℤ five high_join high v k) → last ≡ overwrite out at n (joined low high v)
  unfolding joined
  joined_laid high p =
      p ∙ (λ m. overwrite (laid m) at n (λ k. value (laid m) (at + k) +ℤ five high_join high v k))
      ∙ overwrite_again (pos 0) out at n n (five low_join low v) (λ k. value (overwrite out at n (five low_join low v)) (at + k) +ℤ five high_join high v k) (omega arith) room
      ∙ overwrite_cong out at n _ _ (λ k i. ap (λ (x : ℤ). x +ℤ five high_join high v k) (overwrite_in out at n (five low_join low v) k (pos 0) room i))
