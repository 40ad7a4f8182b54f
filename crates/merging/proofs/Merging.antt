-- The laws of merging: what is read of a value's parts, how large the parts' sums grow, and that what is merged along padded lines is what is merged
-- along the lines. Assumes nothing.
use mathlib.Core.Path.{◌≡◌, refl, sym, ◌∙◌, ap, subst}
use mathlib.Core.List.{List}
use Prim.Native.Nat.{ℕ, ◌+◌, ◌≤◌, ◌<◌}
use native.Mathlib.Nat.{zero-add}
use native.Mathlib.Omega.{arith}
use lib.IntN.{ℤ, nat_abs, ◌+ℤ◌, ◌-ℤ◌}
use lib.ListN.{length}
use lib.Signed.{mag}
use mir.Syntax.{w32}
use mir.Val.{to_z, of_z}
use Rattle.integers.specs.Lists.{overwrite}
use Rattle.integers.proofs.Lists.{overwrite_cong}
use Rattle.integers.proofs.Bounds.{read_is}
use Rattle.planes.specs.Lists.{value}
use Rattle.filters.specs.Bank.{Small, weighted, along, low_join, high_join}
use Rattle.filters.proofs.Ranges.{gain, weighted_range}
use Rattle.lines.specs.declared.Five.{Five}
use Rattle.lines.specs.Lines.{Run, Runs, spaced, five, padded}
use Rattle.lines.proofs.Lines.{read_value, five_small, five_read, five-along}
use Rattle.details.specs.Details.{from_place, Crossing}
use Rattle.nested_floor.specs.NestedFloor.{whole, rest}
use Rattle.nested_floor.proofs.NestedFloor.{whole_small, rest_small}
use Rattle.merging.specs.Merging.{crossed_of, low_away, low_added}

-- ---- what the machine reads of a list
abbrev read : List ℤ → ℕ → ℤ
read l k = to_z w32 (of_z w32 (value l k))

-- a part of a run's value, as a call gives it back
pub part_is : (f : ℤ → ℤ) {l : List ℤ} {o n : ℕ} → Run 805306368 l o n → (k : ℕ) → k < n → {v : ℤ} → mag v < 2147483648 → v ≡ f (read l (o + k)) → to_z w32 (of_z w32 v) ≡ f (value l (o + k))
part_is f r k i ok e = read_is w32 ok (e ∙ ap f (read_value (omega arith) r k i))

-- ---- how large a crossing of parts is
pub whole-crossed_range : {x y : List ℤ} {v : Five} {n : ℕ} → Crossing 805306368 x y v n → (k : ℕ) → k < n → nat_abs (crossed_of whole x y v k) ≤ 9437184
unfolding crossed_of gain high_join
whole-crossed_range {n = n} r k i = weighted_range high_join 786432 _ _ _ _ _ (at r.first) (at r.second) (at r.third) (at r.fourth) (at r.fifth)
  where
    at : {l : List ℤ} {o : ℕ} → Run 805306368 l o n → nat_abs (whole (value l (o + k))) ≤ 786432
    at {l} {o} s = whole_small 786432 (value l (o + k)) (s.small k i)

pub rest-crossed_range : (x y : List ℤ) (v : Five) (k : ℕ) → nat_abs (crossed_of rest x y v k) ≤ 12276
unfolding crossed_of gain high_join
rest-crossed_range x y v k = weighted_range high_join 1023 _ _ _ _ _ (rest_small _) (rest_small _) (rest_small _) (rest_small _) (rest_small _)

-- ---- five places of a padded line
module _ {l : List ℤ} {n : ℕ} (r : Runs 67108864 l (spaced 1) n) (k : ℕ) (i : k < n) where
  pub five_places_small : Small (read l k) × Small (read l (1 + k)) × Small (read l (2 + k)) × Small (read l (3 + k)) × Small (read l (4 + k))
  five_places_small =
      subst (λ (j : ℕ). Small (read l j) × Small (read l (1 + k)) × Small (read l (2 + k)) × Small (read l (3 + k)) × Small (read l (4 + k))) (zero-add k) (five_small low_join r k i 178956970 (omega arith))

  pub five_places_read : weighted low_join (read l k) (read l (1 + k)) (read l (2 + k)) (read l (3 + k)) (read l (4 + k)) ≡ five low_join l (spaced 1) k
  five_places_read =
      ap (λ (j : ℕ). weighted low_join (read l j) (read l (1 + k)) (read l (2 + k)) (read l (3 + k)) (read l (4 + k))) (sym (zero-add k)) ∙ five_read low_join r k i (omega arith)

-- ---- as the calls leave them, over a line that is padded by 2
module _ {n : ℕ} (some : 1 ≤ n) (l : List ℤ) {line : List ℤ} (fit : 2 + n + 2 ≤ length l) (e : line ≡ padded n 2 l) where
  low_along : (k : ℕ) → k < n → five low_join line (spaced 1) k ≡ along low_join 1 n (from_place 2 l) k
  low_along = five-along 1 some refl l fit e low_join

  pub away_laid : (part : List ℤ) (from : ℕ) (out : List ℤ) (at : ℕ) {last : List ℤ} → last ≡ overwrite out at n (low_away part from line)
      → last ≡ overwrite out at n (λ k. value part (from + k) -ℤ along low_join 1 n (from_place 2 l) k)
  unfolding low_away
  away_laid part from out at q = q ∙ overwrite_cong out at n _ _ (λ k i. ap (λ z. value part (from + k) -ℤ z) (low_along k i))

  pub added_laid : (part : List ℤ) (from : ℕ) (out : List ℤ) (at : ℕ) {last : List ℤ} → last ≡ overwrite out at n (low_added part from line)
      → last ≡ overwrite out at n (λ k. value part (from + k) +ℤ along low_join 1 n (from_place 2 l) k)
  unfolding low_added
  added_laid part from out at q = q ∙ overwrite_cong out at n _ _ (λ k i. ap (λ z. value part (from + k) +ℤ z) (low_along k i))

  pub low_laid : {starts : Five} → starts ≡ spaced 1 → (out : List ℤ) (at : ℕ) {last : List ℤ} → last ≡ overwrite out at n (five low_join line starts) → last ≡ overwrite out at n (along low_join 1 n (from_place 2 l))
  low_laid is out at q = q ∙ (λ m. overwrite out at n (five low_join line (is m))) ∙ overwrite_cong out at n _ _ low_along
