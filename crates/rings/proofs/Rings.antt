-- Rings of rows, for any number of slots, spacing and lag: what a step of a stage leaves, and what the rows near a row give. Assumes nothing.
use mathlib.Core.Path.{◌≡◌, sym, ◌∙◌, ap, subst}
use mathlib.Core.List.{List}
use Prim.Native.Nat.{ℕ, ◌+◌, ◌*◌, ◌-◌, ◌/◌, ◌%◌, ◌≤◌, ◌<◌, min}
use native.Mathlib.Decide.{dec_lt}
use native.Mathlib.Nat.{suc-mul, mul-le-mul_right, le_trans, div-add-mod'}
use native.Mathlib.Omega.{arith}
use lib.IntN.{ℤ, pos, nat_abs, ◌+ℤ◌, ◌-ℤ◌}
use lib.ListN.{length}
use Rattle.integers.specs.Lists.{overwrite}
use Rattle.integers.proofs.Lists.{overwrite_in}
use Rattle.border.specs.Border.{reflect}
use Rattle.border.proofs.Reflection.{reflect_lt, reflect_inside, reflect_before, reflect-after}
use Rattle.planes.specs.Lists.{value}
use Rattle.filters.specs.Bank.{Taps, weighted, tap, along, high_join}
use Rattle.lines.specs.Lines.{Run, five}
use Rattle.lines.proofs.Lines.{outside}
use Rattle.projection.specs.Fast.{crossed_along}
use Rattle.details.specs.Details.{Crossing}
use Rattle.rings.specs.declared.Given.{Given}
use Rattle.rings.specs.Rows.{slot, slot_of, five_slots}
use Rattle.rings.specs.Stages.{reached, Working, ring_row_laid}
use Rattle.rings.proofs.Rows.{slot_room}
use Rattle.rings.proofs.Stages.{at_row, reached_next, made_to, held_from, one_row, no_row}

-- ---- rings
-- a ring of n slots holds plane f's rows from lo on and below hi
pub record Ring (n w : ℕ) (l : List ℤ) (f : ℕ → ℕ → ℤ) (lo hi : ℕ) : Type 0 where
  pub holds : (q c : ℕ) → lo ≤ q → q < hi → c < w → value l (slot n w q + c) ≡ f q c

-- two rows less than n apart have different slots
mod_apart : (n p q : ℕ) → p < q → q < p + n → p % n ≡ q % n → ⊥
mod_apart n p q h i e = go (dec_lt (p / n) (q / n))
  where
    go : Dec (p / n < q / n) → ⊥
    go (yes b) = omega (arith, div-add-mod' p n, div-add-mod' q n, mul-le-mul_right n b, suc-mul (p / n) n)
    go (no b) = let c : q / n ≤ p / n = omega arith in omega (arith, div-add-mod' p n, div-add-mod' q n, mul-le-mul_right n c)

slots_apart : (n w p q c : ℕ) → (p % n ≡ q % n → ⊥) → c < w → slot n w q ≤ slot n w p + c → slot n w q + w ≤ slot n w p + c
slots_apart n w p q c e h i = go (dec_lt (p % n) (q % n))
  where
    go : Dec (p % n < q % n) → slot n w q + w ≤ slot n w p + c
    go (yes b) = absurd (omega (arith, mul-le-mul_right w b, suc-mul (p % n) w))
    go (no b) = let d : q % n < p % n = omega arith in omega (arith, mul-le-mul_right w d, suc-mul (q % n) w)

-- one row laid down
ring_laid : (n w : ℕ) → 1 ≤ n → (l : List ℤ) → n * w ≤ length l → (f : ℕ → ℕ → ℤ) (lo hi : ℕ) → Ring n w l f lo hi
    → (q : ℕ) (g : ℕ → ℤ) {l' : List ℤ} → l' ≡ overwrite l (slot n w q) w g → ((c : ℕ) → c < w → g c ≡ f q c)
    → (lo' hi' : ℕ) → hi' ≤ lo' + n → lo' ≤ q → q < hi' → ((p : ℕ) → lo' ≤ p → p < hi' → (p ≡ q → ⊥) → (lo ≤ p) × (p < hi)) → Ring n w l' f lo' hi'
ring_laid n w some l room f lo hi r q g {l'} e at lo' hi' near from to old = record { holds = holds }
  where
    fit : slot n w q + w ≤ length l
    fit = omega (arith, slot_room n w q some)

    holds : (p c : ℕ) → lo' ≤ p → p < hi' → c < w → value l' (slot n w p + c) ≡ f p c
    holds p c h i j = ap (λ (x : List ℤ). value x (slot n w p + c)) e ∙ go (dec_lt p q) (dec_lt q p)
      where
        -- another row stands as it did
        other : (p ≡ q → ⊥) → (p % n ≡ q % n → ⊥) → value (overwrite l (slot n w q) w g) (slot n w p + c) ≡ f p c
        other d m = let o = old p h i d in outside l (slot n w q) w g (slot n w p + c) fit (slots_apart n w p q c m j) ∙ r.holds p c o.0 o.1 j

        go : Dec (p < q) → Dec (q < p) → value (overwrite l (slot n w q) w g) (slot n w p + c) ≡ f p c
        go (yes b) d = other (λ m. omega arith) (mod_apart n p q b (omega arith))
        go (no b) (yes d) = other (λ m. omega arith) (λ m. mod_apart n q p d (omega arith) (sym m))
        go (no b) (no d) = subst (λ (s : ℕ). value (overwrite l (slot n w q) w g) (slot n w s + c) ≡ f s c) (sym same) (overwrite_in l (slot n w q) w g c (pos 0) fit j ∙ at c j)
          where
            same : p ≡ q
            same = omega arith

-- ---- the ring of a stage
-- before step t, a ring of n slots holds the last n rows that its stage, which lags, has made
abbrev pub Held : Given → ℕ → ℕ → List ℤ → (ℕ → ℕ → ℤ) → ℕ → Type 0
Held g n lag l f t = Ring n g.width l f (reached lag g.height t - n) (reached lag g.height t)

pub held_none : (g : Given) (n lag : ℕ) {l : List ℤ} {f : ℕ → ℕ → ℤ} → Held g n lag l f 0
held_none g n lag = record { holds = λ q c i j. absurd (omega arith) }

module _ (g : Given) (lag t : ℕ) where
  abbrev w : ℕ
  w = g.width

  -- how many rows are made before the step, and after it
  abbrev before : ℕ
  before = reached lag g.height t

  abbrev after : ℕ
  after = reached lag g.height (t + 1)

  pub held_next : (n : ℕ) → 1 ≤ n → (l : List ℤ) → n * w ≤ length l → (f : ℕ → ℕ → ℤ) → Held g n lag l f t
      → (rows : ℕ → ℕ → ℤ) {l' : List ℤ} → l' ≡ ring_row_laid n lag g t l rows → (Working lag g.height t → (c : ℕ) → c < w → rows before c ≡ f before c)
      → Held g n lag l' f (t + 1)
  unfolding ring_row_laid
  held_next n some l room f ring rows {l'} q same = go (dec_lt before after)
    where
      next : (before ≤ after) × (after ≤ before + 1)
      next = reached_next lag g.height t

      go : Dec (before < after) → Held g n lag l' f (t + 1)
      go (yes i) =
          ring_laid n w some l room f (before - n) before ring before (rows before) (q ∙ one_row lag g t i l (slot n w before) (rows before)) (same i) (after - n) after
          (whole after) (low before after next.1) i (λ p a b d. (old before after p next.0 a, below before after p next.1 b d))
        where
          whole : (y : ℕ) → y ≤ (y - n) + n
          whole y = omega arith

          low : (x y : ℕ) → y ≤ x + 1 → y - n ≤ x
          low x y a = omega arith

          old : (x y p : ℕ) → x ≤ y → y - n ≤ p → x - n ≤ p
          old x y p a b = omega arith

          below : (x y p : ℕ) → y ≤ x + 1 → p < y → (p ≡ x → ⊥) → p < x
          below x y p a b d = omega (arith, d)
      go (no i) = subst (λ (y : ℕ). Ring n w l' f (y - n) y) same_number (record { holds = λ p c a b j. ap (λ (x : List ℤ). value x (slot n w p + c)) (q ∙ no_row lag g t i l (slot n w before) (rows before)) ∙ ring.holds p c a b j })
        where
          equal : (x y : ℕ) → x ≤ y → (x < y → ⊥) → x ≡ y
          equal x y a b = omega (arith, b)

          same_number : before ≡ after
          same_number = equal before after next.0 i

-- ---- rows near a row
-- a row at most k away from row r of h, where the rows from hi − n on and below hi are held
near : (n k h hi r q : ℕ) → hi - n ≤ r - k → min (r + k + 1) h ≤ hi → r ≤ q + k → q ≤ r + k → q < h → (hi - n ≤ q) × (q < hi)
near n k h hi r q from to a b j = (omega arith, omega arith)

farther : (x y s k : ℕ) → s ≤ k → x ≤ y + s → x ≤ y + k
farther x y s k a b = omega arith

le_add : (x k : ℕ) → x ≤ x + k
le_add x k = omega arith

some_row : (x h : ℕ) → x < h → 1 ≤ h
some_row x h b = omega arith

-- The row is the one that a later stage makes at step t, `lag` steps behind. The ring's own stage lags at least k steps less, and the ring has
-- slots enough for k rows before the row and after it.
module _ (g : Given) (lag t : ℕ) (i : Working lag g.height t) (n lag' k : ℕ) (some : 1 ≤ n) (made : lag' + k ≤ lag) (kept : lag + 1 + k ≤ lag' + n) where
  abbrev width : ℕ
  width = g.width

  abbrev h : ℕ
  h = g.height

  abbrev row : ℕ
  row = reached lag h t

  row_is : (t ≡ lag + row) × (row < h)
  row_is = at_row lag h t i

  positive : 1 ≤ h
  positive = some_row row h row_is.1

  -- it is held
  abbrev In : ℕ → Type 0
  In q = (reached lag' h (t + 1) - n ≤ q) × (q < reached lag' h (t + 1))

  within : (q : ℕ) → row ≤ q + k → q ≤ row + k → q < h → In q
  within q = near n k h (reached lag' h (t + 1)) row q (held_from lag lag' n k h t row row_is.0 kept) (made_to lag lag' k h t row row_is.0 made)

  back_in : (s : ℕ) → s ≤ k → In (reflect h (pos row -ℤ pos s))
  back_in s a =
      let q = reflect_before h row s row_is.1 in
      let x = reflect h (pos row -ℤ pos s) in
      within x (farther row x s k a q.0) (farther x row s k a q.1) (reflect_lt h positive (pos row -ℤ pos s))

  on_in : (s : ℕ) → s ≤ k → In (reflect h (pos row +ℤ pos s))
  on_in s a =
      let q = reflect-after h row s row_is.1 in
      let x = reflect h (pos row +ℤ pos s) in
      within x (farther row x s k a q.0) (farther x row s k a q.1) (reflect_lt h positive (pos row +ℤ pos s))

  here_in : In row
  here_in = within row (le_add row k) (le_add row k) row_is.1

  module _ {l : List ℤ} {f : ℕ → ℕ → ℤ} (ring : Held g n lag' l f (t + 1)) where
    -- what they hold
    module _ (c : ℕ) (j : c < width) where
      pub held_back : (s : ℕ) → s ≤ k → value l (slot_of n g (pos row -ℤ pos s) + c) ≡ f (reflect h (pos row -ℤ pos s)) c
      held_back s a = ring.holds _ c (back_in s a).0 (back_in s a).1 j

      pub held_on : (s : ℕ) → s ≤ k → value l (slot_of n g (pos row +ℤ pos s) + c) ≡ f (reflect h (pos row +ℤ pos s)) c
      held_on s a = ring.holds _ c (on_in s a).0 (on_in s a).1 j

      pub held_own : value l (slot n width row + c) ≡ f row c
      held_own = ring.holds row c here_in.0 here_in.1 j

      pub held_here : value l (slot n width row + c) ≡ f (reflect h (pos row)) c
      held_here = held_own ∙ ap (λ (q : ℕ). f q c) (sym (reflect_inside h row row_is.1))

      -- five of them
      pub five_is : (t : Taps) (d : ℕ) → 2 * d ≤ k → five t l (five_slots n d g row) c ≡ along t d h (λ q. f q c) row
      unfolding five along tap
      five_is t d a = λ m. weighted t (held_back (2 * d) a m) (held_back d (omega arith) m) (held_here m) (held_on d (omega arith) m) (held_on (2 * d) a m)

    -- and how large they are
    module _ (room : n * width ≤ length l) (m : ℕ) (small : (q c : ℕ) → q < h → c < width → nat_abs (f q c) ≤ m) where
      run_at : (q : ℕ) → In q → q < h → Run m l (slot n width q) width
      run_at q b r = record { inside = le_trans (slot_room n width q some) room; small = λ c j. subst (λ (z : ℤ). nat_abs z ≤ m) (sym (ring.holds q c b.0 b.1 j)) (small q c r j) }

      pub run_back : (s : ℕ) → s ≤ k → Run m l (slot_of n g (pos row -ℤ pos s)) width
      run_back s a = run_at _ (back_in s a) (reflect_lt h positive (pos row -ℤ pos s))

      pub run_on : (s : ℕ) → s ≤ k → Run m l (slot_of n g (pos row +ℤ pos s)) width
      run_on s a = run_at _ (on_in s a) (reflect_lt h positive (pos row +ℤ pos s))

      pub run_here : Run m l (slot n width row) width
      run_here = run_at row here_in row_is.1

  -- two rings in turn
  module _ {x y : List ℤ} {f e : ℕ → ℕ → ℤ} (rx : Held g n lag' x f (t + 1)) (ry : Held g n lag' y e (t + 1)) where
    pub crossing_rows : n * width ≤ length x → n * width ≤ length y → (m : ℕ) → ((q c : ℕ) → q < h → c < width → nat_abs (f q c) ≤ m) → ((q c : ℕ) → q < h → c < width → nat_abs (e q c) ≤ m)
        → (d : ℕ) → 2 * d ≤ k → Crossing m x y (five_slots n d g row) width
    crossing_rows room_x room_y m sx sy d a = record {
      first = run_back rx room_x m sx (2 * d) a;
      second = run_back ry room_y m sy d (omega arith);
      third = run_here rx room_x m sx;
      fourth = run_on ry room_y m sy d (omega arith);
      fifth = run_on rx room_x m sx (2 * d) a;
    }

    -- each value through u first
    pub crossed_is : (u : ℤ → ℤ) (c : ℕ) → c < width → (d : ℕ) → 2 * d ≤ k → let v = five_slots n d g row in
        weighted high_join (u (value x (v.a + c))) (u (value y (v.b + c))) (u (value x (v.c + c))) (u (value y (v.d + c))) (u (value x (v.e + c)))
        ≡ crossed_along d h (λ q. u (f q c)) (λ q. u (e q c)) row
    unfolding crossed_along
    crossed_is u c j d a = λ m. weighted high_join (u (held_back rx c j (2 * d) a m)) (u (held_back ry c j d (omega arith) m)) (u (held_here rx c j m)) (u (held_on ry c j d (omega arith) m)) (u (held_on rx c j (2 * d) a m))
