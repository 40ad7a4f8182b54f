-- The laws of what lies outside a limit, and of what the projection's sums read and how large they grow. Assumes nothing.
use mathlib.Core.Path.{◌≡◌, refl, sym, ◌∙◌, ap, subst}
use mathlib.Core.List.{List}
use Prim.Native.Nat.{ℕ, ◌+◌, ◌*◌, ◌≤◌, ◌<◌}
use native.Mathlib.Nat.{zero-add}
use native.Mathlib.Omega.{arith}
use lib.Dec.{T}
use lib.IntN.{ℤ, pos, negsuc, nat_abs, ◌+ℤ◌, ◌-ℤ◌}
use lib.ListN.{length}
use lib.Signed.{non_neg}
use Rattle.std.specs.Int.{int_max, int_min}
use Rattle.std.proofs.lemmas.Int.{ints, clamps}
use mir.Syntax.{w32}
use mir.Val.{to_z, of_z}
use mir.Facts.{to_z-of_z as back}
use Rattle.integers.specs.Lists.{overwrite}
use Rattle.integers.proofs.Lists.{overwrite_cong}
use Rattle.integers.proofs.Bounds.{fits_abs}
use Rattle.planes.specs.Lists.{value}
use Rattle.filters.specs.Bank.{Taps, weighted, low_split, high_split, high_join, along}
use Rattle.filters.proofs.Ranges.{gain, weighted_range}
use Rattle.lines.specs.declared.Five.{Five}
use Rattle.lines.specs.Lines.{Run, spaced, three, padded}
use Rattle.lines.proofs.Lines.{run_wider, three_small, three_read, three_range, three_runs, three-along, five_runs, five_places}
use Rattle.projection.specs.Fast.{excess, outer_part, crossed_along}
use Rattle.projection.proofs.Parts.{crossed_same}
use Rattle.projection.proofs.Outside.{excess_pos, excess_negsuc, excess_bound}
use Rattle.details.specs.Details.{Triple, outer, from_place, crossed, Crossing}

-- ---- what lies outside a limit, as a sum of two
pub excess_parts : (limit z : ℤ) → T (non_neg limit) → int_max (z -ℤ limit) (pos 0) +ℤ int_min (z +ℤ limit) (pos 0) ≡ excess limit z
excess_parts (negsuc m) z s = absurd s
excess_parts (pos m) (pos a) s = omega (arith, ints, clamps, excess_pos m a)
excess_parts (pos m) (negsuc a) s = omega (arith, ints, clamps, excess_negsuc m a)

-- ---- what the machine reads of a list
abbrev read : List ℤ → ℕ → ℤ
read l k = to_z w32 (of_z w32 (value l k))

-- ---- three places of a padded line
module _ (t : Taps) {m : ℕ} {l : List ℤ} {d n : ℕ} (r : Triple m l d n) (k : ℕ) (i : k < n) where
  pub triple_small : (most : ℕ) → m ≤ most → (nat_abs (read l k) ≤ most) × (nat_abs (read l (d + k)) ≤ most) × (nat_abs (read l (2 * d + k)) ≤ most)
  triple_small most h =
      subst (λ (j : ℕ). (nat_abs (read l j) ≤ most) × (nat_abs (read l (d + k)) ≤ most) × (nat_abs (read l (2 * d + k)) ≤ most)) (zero-add k) (three_small t r.first r.second r.third k i most h)

  pub triple_read : m < 2147483648 → weighted t (pos 0) (read l k) (read l (d + k)) (read l (2 * d + k)) (pos 0) ≡ three t l 0 d (2 * d) k
  triple_read h = ap (λ (j : ℕ). weighted t (pos 0) (read l j) (read l (d + k)) (read l (2 * d + k)) (pos 0)) (sym (zero-add k)) ∙ three_read t r.first r.second r.third k i h

  pub triple_range : nat_abs (three t l 0 d (2 * d) k) ≤ gain t * m
  triple_range = three_range t r.first r.second r.third k i

-- ---- five places, of one list and of another in turn
module _ {m : ℕ} {x y : List ℤ} {v : Five} {n : ℕ} (r : Crossing m x y v n) (k : ℕ) (i : k < n) where
  pub crossing_read : m < 2147483648 → weighted high_join (read x (v.a + k)) (read y (v.b + k)) (read x (v.c + k)) (read y (v.d + k)) (read x (v.e + k)) ≡ crossed x y v k
  unfolding crossed
  crossing_read h = λ j. weighted high_join (at r.first j) (at r.second j) (at r.third j) (at r.fourth j) (at r.fifth j)
    where
      at : {l : List ℤ} {o : ℕ} → Run m l o n → read l (o + k) ≡ value l (o + k)
      at {l} {o} run = back (fits_abs w32 (value l (o + k)) (omega (arith, run.small k i)))

  pub crossing_range : nat_abs (crossed x y v k) ≤ 12 * m
  unfolding crossed gain high_join
  crossing_range = weighted_range high_join m _ _ _ _ _ (r.first.small k i) (r.second.small k i) (r.third.small k i) (r.fourth.small k i) (r.fifth.small k i)

-- ---- what lies outside along a padded line
pub outer_range : (t : Taps) (limit : ℤ) → T (non_neg limit) → {m : ℕ} {l : List ℤ} {d n : ℕ} → Triple m l d n → (k : ℕ) → k < n → nat_abs (outer t limit d l k) ≤ gain t * m
unfolding outer
outer_range t limit s {m} {l} {d} r k i = omega (arith, excess_bound limit (three t l 0 d (2 * d) k) s, triple_range t r k i)

-- within a larger bound too
pub crossing_wider : {m most : ℕ} → m ≤ most → {x y : List ℤ} {v : Five} {n : ℕ} → Crossing m x y v n → Crossing most x y v n
crossing_wider h r = record {
  first = run_wider h r.first;
  second = run_wider h r.second;
  third = run_wider h r.third;
  fourth = run_wider h r.fourth;
  fifth = run_wider h r.fifth;
}

-- ---- along padded lines is along the lines
-- a line padded by d, three places
module _ (d : ℕ) {n : ℕ} (some : 1 ≤ n) (l : List ℤ) {line : List ℤ} (fit : d + n + d ≤ length l) (e : line ≡ padded n d l) where
  pub triple_padded : {m : ℕ} → Run m l d n → Triple m line d n
  triple_padded r = let q = three_runs d some l fit e r in record { first = q.0; second = q.1; third = q.2 }

  outer-padded : (t : Taps) → t.far ≡ pos 0 → (limit : ℤ) (k : ℕ) → k < n → outer t limit d line k ≡ outer_part t limit d n (from_place d l) k
  unfolding outer outer_part
  outer-padded t z limit k i = ap (excess limit) (three-along d some l fit e t z k i)

  -- as the calls leave them, where the limit is `given` as the machine reads it
  pub outer_laid : {given limit : ℤ} → given ≡ limit → (out : List ℤ) (at : ℕ) {last : List ℤ} → last ≡ overwrite out at n (outer high_split given d line)
      → last ≡ overwrite out at n (outer_part high_split limit d n (from_place d l))
  unfolding high_split
  outer_laid {given} {limit} z out at q = q ∙ (λ j. overwrite out at n (outer high_split (z j) d line)) ∙ overwrite_cong out at n _ _ (outer-padded high_split refl limit)

  pub outers_laid : (f : ℤ → ℤ → ℤ) {given limit : ℤ} → given ≡ limit → (out : List ℤ) (at : ℕ) {last : List ℤ}
      → last ≡ overwrite out at n (λ k. f (outer high_split given d line k) (outer low_split given d line k))
      → last ≡ overwrite out at n (λ k. f (outer_part high_split limit d n (from_place d l) k) (outer_part low_split limit d n (from_place d l) k))
  unfolding high_split low_split
  outers_laid f {given} {limit} z out at q =
      q ∙ (λ j. overwrite out at n (λ k. f (outer high_split (z j) d line k) (outer low_split (z j) d line k)))
      ∙ overwrite_cong out at n _ _ (λ k i. λ j. f (outer-padded high_split refl limit k i j) (outer-padded low_split refl limit k i j))

-- lines padded by p, which is 2·d, five places
module _ (d : ℕ) {n : ℕ} (some : 1 ≤ n) {p : ℕ} (pad : p ≡ 2 * d) (x y : List ℤ) {x' y' : List ℤ} (fx : p + n + p ≤ length x) (fy : p + n + p ≤ length y) (ex : x' ≡ padded n p x) (ey : y' ≡ padded n p y) where
  pub crossing_padded : {m : ℕ} → Run m x p n → Run m y p n → Crossing m x' y' (spaced d) n
  crossing_padded rx ry =
      let u = five_runs d some pad x fx ex rx in
      let v = five_runs d some pad y fy ey ry in
      record { first = u.first; second = v.second; third = u.third; fourth = v.fourth; fifth = u.fifth }

  pub crossed-padded : (k : ℕ) → k < n → crossed x' y' (spaced d) k ≡ crossed_along d n (from_place p x) (from_place p y) k
  unfolding crossed crossed_along
  crossed-padded k i =
      let u = five_places d some pad x fx ex k i in
      let v = five_places d some pad y fy ey k i in
      λ m. weighted high_join (u.far_back m) (v.near_back m) (u.here m) (v.near_on m) (u.far_on m)

-- and joined, as the call leaves it: f of what the crossed lines give and of what the plain one does
pub joined_laid : (f : ℤ → ℤ → ℤ) (d : ℕ) {n : ℕ} (some : 1 ≤ n) {p : ℕ} (pad : p ≡ 2 * d) (parts minus plus : List ℤ) {parts' minus' plus' : List ℤ}
    → p + n + p ≤ length parts → p + n + p ≤ length minus → p + n + p ≤ length plus → parts' ≡ padded n p parts → minus' ≡ padded n p minus → plus' ≡ padded n p plus
    → (out : List ℤ) (at : ℕ) {last : List ℤ} → last ≡ overwrite out at n (λ k. f (crossed minus' plus' (spaced d) k) (crossed parts' parts' (spaced d) k))
    → last ≡ overwrite out at n (λ k. f (crossed_along d n (from_place p minus) (from_place p plus) k) (along high_join d n (from_place p parts) k))
joined_laid f d {n} some {p} pad parts minus plus fp fm fq e m q out at z =
    z
    ∙ overwrite_cong out at n _ _ (λ k i. λ j. f (crossed-padded d some pad minus plus fm fq m q k i j) ((crossed-padded d some pad parts parts fp fp e e k i ∙ crossed_same d n (from_place p parts) k) j))
