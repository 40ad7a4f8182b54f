-- The laws of turned pictures: each step undoes itself, mirrors commute, an exchange swaps them, and so a turn followed by
-- another is one turn. Assumes nothing.
use mathlib.Core.Path.{◌≡◌, refl, sym, ◌∙◌, ap}
use mathlib.Core.Bool.{Bool, true, false, cond, xor}
use Prim.Native.Nat.{ℕ, ◌+◌, ◌*◌, ◌-◌, ◌%◌, ◌<◌}
use native.Mathlib.Decide.{ℕ_discrete}
use native.Mathlib.Omega.{arith}
use borrow.Author.Tests.{eq-eqb, ne_eqb}
use Rattle.planes.specs.Layout.{red_row, red_column, with_parities}
use Rattle.planes.proofs.Layouts.{row_lt, column_lt, row_with, column_with, parities_again, own_parities}
use Rattle.turns.specs.Pictures.{Picture, exchanged, left_right, top_bottom, flip_if_even, Steps, steps_of, if_so, turned_by, turned, followed_by, bit, number_of_steps, then_another, ◌≈◌}

-- ---- a parity, flipped by the length's parity
pub flip_even : (n p : ℕ) → n % 2 ≡ 0 → flip_if_even n p ≡ 1 - p
unfolding flip_if_even
flip_even n p e = rw (eq-eqb (n % 2) 0 e, flip_if_even)

pub flip_odd : (n p : ℕ) → (n % 2 ≡ 0 → ⊥) → flip_if_even n p ≡ p
unfolding flip_if_even
flip_odd n p e = rw (ne_eqb (n % 2) 0 e, flip_if_even)

-- the flip as a sum: a parity, the length and one more
pub flip_is : (n p : ℕ) → p < 2 → flip_if_even n p ≡ (p + n + 1) % 2
flip_is n p h = go (ℕ_discrete (n % 2) 0)
  where
    go : Dec (n % 2 ≡ 0) → flip_if_even n p ≡ (p + n + 1) % 2
    go (yes e) = flip_even n p e ∙ omega arith
    go (no e) = flip_odd n p e ∙ omega arith

pub flip_lt : (n p : ℕ) → p < 2 → flip_if_even n p < 2
flip_lt n p h = omega (arith, flip_is n p h)

flip_twice : (n p : ℕ) → p < 2 → flip_if_even n (flip_if_even n p) ≡ p
flip_twice n p h = flip_is n (flip_if_even n p) (flip_lt n p h) ∙ ap (λ (q : ℕ). (q + n + 1) % 2) (flip_is n p h) ∙ again
  where
    again : ((p + n + 1) % 2 + n + 1) % 2 ≡ p
    again = omega arith

ruleset exchanges = (row_with, column_with, row_lt, column_lt, parities_again, own_parities)

ruleset mirrors = (exchanges, flip_lt, flip_twice)

module _ {A : Type 0} where
  -- ---- agreeing pictures
  pub ≈_refl : (p : Picture A) → p ≈ p
  ≈_refl p = record { widths = refl; heights = refl; layouts = refl; places = λ r c hr hc. refl }

  pub ≈_sym : {p q : Picture A} → p ≈ q → q ≈ p
  ≈_sym h = record {
    widths = sym h.widths;
    heights = sym h.heights;
    layouts = sym h.layouts;
    places = λ r c hr hc. sym (h.places r c (rw h.heights hr) (rw h.widths hc));
  }

  pub ≈_trans : {p q s : Picture A} → p ≈ q → q ≈ s → p ≈ s
  ≈_trans h g = record {
    widths = h.widths ∙ g.widths;
    heights = h.heights ∙ g.heights;
    layouts = h.layouts ∙ g.layouts;
    places = λ r c hr hc. h.places r c hr hc ∙ g.places r c (rw (← h.heights) hr) (rw (← h.widths) hc);
  }

  -- ---- each step on agreeing pictures
  pub exchanged_≈ : {p q : Picture A} → p ≈ q → exchanged p ≈ exchanged q
  unfolding exchanged
  exchanged_≈ h = record {
    widths = h.heights;
    heights = h.widths;
    layouts = ap (λ (l : ℕ). with_parities l (red_column l) (red_row l)) h.layouts;
    places = λ r c hr hc. h.places c r hc hr;
  }

  pub left_right_≈ : {p q : Picture A} → p ≈ q → left_right p ≈ left_right q
  unfolding left_right
  left_right_≈ {p} {q} h = record {
    widths = h.widths;
    heights = h.heights;
    layouts = λ i. with_parities (h.layouts i) (red_row (h.layouts i)) (flip_if_even (h.widths i) (red_column (h.layouts i)));
    places = λ r c hr hc. h.places r (p.width - 1 - c) hr (omega arith) ∙ ap (λ (w : ℕ). q.at r (w - 1 - c)) h.widths;
  }

  pub top_bottom_≈ : {p q : Picture A} → p ≈ q → top_bottom p ≈ top_bottom q
  unfolding top_bottom
  top_bottom_≈ {p} {q} h = record {
    widths = h.widths;
    heights = h.heights;
    layouts = λ i. with_parities (h.layouts i) (flip_if_even (h.heights i) (red_row (h.layouts i))) (red_column (h.layouts i));
    places = λ r c hr hc. h.places (p.height - 1 - r) c (omega arith) hc ∙ ap (λ (w : ℕ). q.at (w - 1 - r) c) h.heights;
  }

  -- ---- the steps' relations
  pub exchanged_twice : (p : Picture A) → exchanged (exchanged p) ≈ p
  unfolding exchanged
  exchanged_twice p = record { widths = refl; heights = refl; layouts = simp exchanges; places = λ r c hr hc. refl }

  left_right_twice : (p : Picture A) → left_right (left_right p) ≈ p
  unfolding left_right
  left_right_twice p = record { widths = refl; heights = refl; layouts = simp mirrors; places = λ r c hr hc. ap (p.at r) (omega arith) }

  top_bottom_twice : (p : Picture A) → top_bottom (top_bottom p) ≈ p
  unfolding top_bottom
  top_bottom_twice p = record { widths = refl; heights = refl; layouts = simp mirrors; places = λ r c hr hc. ap (λ (i : ℕ). p.at i c) (omega arith) }

  mirrors_commute : (p : Picture A) → top_bottom (left_right p) ≈ left_right (top_bottom p)
  unfolding top_bottom left_right
  mirrors_commute p = record { widths = refl; heights = refl; layouts = simp mirrors; places = λ r c hr hc. refl }

  pub exchange_left_right : (p : Picture A) → exchanged (left_right p) ≈ top_bottom (exchanged p)
  unfolding top_bottom left_right exchanged
  exchange_left_right p = record { widths = refl; heights = refl; layouts = simp mirrors; places = λ r c hr hc. refl }

  exchange_top_bottom : (p : Picture A) → exchanged (top_bottom p) ≈ left_right (exchanged p)
  unfolding top_bottom left_right exchanged
  exchange_top_bottom p = record { widths = refl; heights = refl; layouts = simp mirrors; places = λ r c hr hc. refl }

  -- so a top-bottom mirror is a left-right one between two exchanges
  pub top_bottom_is : (p : Picture A) → top_bottom p ≈ exchanged (left_right (exchanged p))
  top_bottom_is p = ≈_sym (≈_trans (exchange_left_right (exchanged p)) (top_bottom_≈ (exchanged_twice p)))

  -- ---- steps that are taken or not
  if_≈ : (S : Picture A → Picture A) → ((p q : Picture A) → p ≈ q → S p ≈ S q) → (b : Bool) {p q : Picture A} → p ≈ q → if_so b S p ≈ if_so b S q
  if_≈ S s true {p} {q} h = s p q h
  if_≈ S s false h = h

  if_exchanged : (b : Bool) {p q : Picture A} → p ≈ q → if_so b exchanged p ≈ if_so b exchanged q
  if_exchanged b h = if_≈ exchanged (λ p q. exchanged_≈) b h

  if_left_right : (b : Bool) {p q : Picture A} → p ≈ q → if_so b left_right p ≈ if_so b left_right q
  if_left_right b h = if_≈ left_right (λ p q. left_right_≈) b h

  if_top_bottom : (b : Bool) {p q : Picture A} → p ≈ q → if_so b top_bottom p ≈ if_so b top_bottom q
  if_top_bottom b h = if_≈ top_bottom (λ p q. top_bottom_≈) b h

  pub turned_by_≈ : (s : Steps) {p q : Picture A} → p ≈ q → turned_by s p ≈ turned_by s q
  unfolding turned_by
  turned_by_≈ s h =
      if_top_bottom s.mirror_top_bottom (if_left_right s.mirror_left_right (if_exchanged s.exchange h))

  mirrored : Bool → Bool → Picture A → Picture A
  mirrored lr tb p = if_so tb top_bottom (if_so lr left_right p)

  mirrored_≈ : (lr tb : Bool) {p q : Picture A} → p ≈ q → mirrored lr tb p ≈ mirrored lr tb q
  unfolding mirrored
  mirrored_≈ lr tb h = if_top_bottom tb (if_left_right lr h)

  twice : (S : Picture A → Picture A) → ((p : Picture A) → S (S p) ≈ p) → (b c : Bool) (p : Picture A) → if_so c S (if_so b S p) ≈ if_so (xor b c) S p
  unfolding xor
  twice S ss true true p = ss p
  twice S ss true false p = ≈_refl (S p)
  twice S ss false true p = ≈_refl (S p)
  twice S ss false false p = ≈_refl p

  past : (lr tb : Bool) (p : Picture A) → if_so lr left_right (if_so tb top_bottom p) ≈ if_so tb top_bottom (if_so lr left_right p)
  past true true p = ≈_sym (mirrors_commute p)
  past true false p = ≈_refl (left_right p)
  past false true p = ≈_refl (top_bottom p)
  past false false p = ≈_refl p

  mirrored_twice : (lr tb lr' tb' : Bool) (p : Picture A) → mirrored lr' tb' (mirrored lr tb p) ≈ mirrored (xor lr lr') (xor tb tb') p
  unfolding mirrored
  mirrored_twice lr tb lr' tb' p =
      ≈_trans (if_top_bottom tb' (past lr' tb (if_so lr left_right p)))
      (≈_trans (twice top_bottom top_bottom_twice tb tb' (if_so lr' left_right (if_so lr left_right p)))
      (if_top_bottom (xor tb tb') (twice left_right left_right_twice lr lr' p)))

  exchange_past : (e lr tb : Bool) (p : Picture A) → if_so e exchanged (mirrored lr tb p) ≈ mirrored (cond e tb lr) (cond e lr tb) (if_so e exchanged p)
  unfolding mirrored
  exchange_past false lr tb p = ≈_refl (mirrored lr tb p)
  exchange_past true false false p = ≈_refl (exchanged p)
  exchange_past true true false p = exchange_left_right p
  exchange_past true false true p = exchange_top_bottom p
  exchange_past true true true p =
      ≈_trans (exchange_top_bottom (left_right p))
      (≈_trans (left_right_≈ (exchange_left_right p)) (≈_sym (mirrors_commute (exchanged p))))

  -- ---- a turn and then another is the one turn that `followed_by` names
  pub turned_by_then : (s t : Steps) (p : Picture A) → turned_by t (turned_by s p) ≈ turned_by (followed_by s t) p
  unfolding turned_by mirrored followed_by
  turned_by_then s t p =
      ≈_trans (mirrored_≈ t.mirror_left_right t.mirror_top_bottom (exchange_past t.exchange s.mirror_left_right s.mirror_top_bottom (if_so s.exchange exchanged p)))
      (≈_trans (mirrored_twice lr tb t.mirror_left_right t.mirror_top_bottom (if_so t.exchange exchanged (if_so s.exchange exchanged p)))
      (mirrored_≈ (xor lr t.mirror_left_right) (xor tb t.mirror_top_bottom) (twice exchanged exchanged_twice s.exchange t.exchange p)))
    where
      lr : Bool
      lr = cond t.exchange s.mirror_top_bottom s.mirror_left_right

      tb : Bool
      tb = cond t.exchange s.mirror_left_right s.mirror_top_bottom

-- ---- the same by the turns' numbers
pub steps_of_number : (s : Steps) → steps_of (number_of_steps s) ≡ s
unfolding steps_of number_of_steps
steps_of_number s = go s.exchange s.mirror_left_right s.mirror_top_bottom
  where
    go : (e lr tb : Bool) → steps_of (4 * bit e + 2 * bit tb + bit lr) ≡ record { exchange = e; mirror_left_right = lr; mirror_top_bottom = tb }
    go true true true = refl
    go true true false = refl
    go true false true = refl
    go true false false = refl
    go false true true = refl
    go false true false = refl
    go false false true = refl
    go false false false = refl

pub turned_then : {A : Type 0} (s t : ℕ) (p : Picture A) → turned t (turned s p) ≈ turned (then_another s t) p
unfolding turned then_another
turned_then s t p = rw (steps_of_number (followed_by (steps_of s) (steps_of t))) (turned_by_then (steps_of s) (steps_of t) p)
