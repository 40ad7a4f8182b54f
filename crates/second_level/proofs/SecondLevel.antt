-- The stages' rows as the calls leave them. Assumes nothing.
use mathlib.Core.Path.{◌≡◌, sym, ◌∙◌, ap}
use mathlib.Core.List.{List}
use Prim.Native.Nat.{ℕ, ◌+◌, ◌≤◌}
use native.Mathlib.Nat.{le_trans, zero-add}
use native.Mathlib.Omega.{arith}
use lib.IntN.{ℤ}
use lib.ListN.{length}
use Rattle.integers.specs.Lists.{overwrite}
use Rattle.integers.proofs.Lists.{overwrite_cong}
use Rattle.planes.specs.Lists.{value}
use Rattle.filters.specs.Bank.{along, low_join}
use Rattle.filters.proofs.Ranges.{gain}
use Rattle.lines.specs.declared.Five.{Five}
use Rattle.lines.specs.Lines.{Run, Runs, five}
use Rattle.lines.proofs.Lines.{five_range}
use Rattle.projection.proofs.Parts.{along_inside}
use Rattle.details.specs.Details.{from_place, Crossing, crossed}
use Rattle.nested_floor.specs.NestedFloor.{settled_two, whole, rest}
use Rattle.merging.specs.Merging.{crossed_of, settled_place}
use Rattle.merging.proofs.Merging.{whole-crossed_range, rest-crossed_range}
use Rattle.rings.specs.declared.Given.{Given}
use Rattle.rings.specs.Rows.{row_at, five_slots}
use Rattle.rings.proofs.Rows.{laid_run, laid_at}
use Rattle.second_level.specs.SecondLevel.{settled_row}

-- ---- the second level's joined sum, along the row
module _ (w : ℕ) (l : List ℤ) (room : 2 + w ≤ length l) where
  pub whole_run : {x y : List ℤ} {v : Five} → Crossing 805306368 x y v w → {line : List ℤ} → line ≡ overwrite l 2 w (crossed_of whole x y v) → Run 67108864 line 2 w
  whole_run r e = laid_run 67108864 l 2 w _ e room (λ k i. le_trans (whole-crossed_range r k i) (omega arith))

  pub rest_run : (x y : List ℤ) (v : Five) {line : List ℤ} → line ≡ overwrite l 2 w (crossed_of rest x y v) → Run 67108864 line 2 w
  rest_run x y v e = laid_run 67108864 l 2 w _ e room (λ k i. le_trans (rest-crossed_range x y v k) (omega arith))

  -- through the low join taps, from the slots that code found
  pub low_joined : 1 ≤ w → (f : ℤ → ℤ) (x y : List ℤ) {v v' : Five} → v ≡ v' → {line : List ℤ} → line ≡ overwrite l 2 w (crossed_of f x y v) → (k : ℕ) → along low_join 1 w (from_place 2 line) k ≡ along low_join 1 w (crossed_of f x y v') k
  low_joined some f x y {v} z {line} e k = along_inside 1 w some low_join (from_place 2 line) (crossed_of f x y v) (laid_at l 2 w _ e room) k ∙ (λ j. along low_join 1 w (crossed_of f x y (z j)) k)

-- ---- a row settled
module _ (g : Given) (rests : List ℤ) {v : Five} (r : Runs 174762 rests v g.width) (l : List ℤ) (room : 0 + g.width ≤ length l) {line : List ℤ} (e : line ≡ overwrite l 0 g.width (five low_join rests v)) where
  pub rests_run : Run 2097152 line 0 g.width
  unfolding gain low_join
  rests_run = laid_run 2097152 l 0 g.width _ e room (λ k i. le_trans (five_range low_join r k i) (omega arith))

  pub settled_laid : {least least' most most' : ℤ} → least ≡ least' → most ≡ most' → (q : ℕ) → v ≡ five_slots 5 1 g q → (own apart together : List ℤ) {last : List ℤ}
      → last ≡ overwrite own (row_at g q) g.width (settled_place least most own (row_at g q) apart together v line)
      → last ≡ overwrite own (row_at g q) g.width (settled_row g least' most' own apart together rests q)
  unfolding settled_place settled_row
  settled_laid is_least is_most q z own apart together p =
      p ∙ overwrite_cong own (row_at g q) g.width _ _ (λ k i. λ j.
      settled_two (is_least j) (is_most j) (value own (row_at g q + k)) (crossed apart together (z j) k)
      ((ap (value line) (sym (zero-add k)) ∙ laid_at l 0 g.width _ e room k i ∙ (λ m. five low_join rests (z m) k)) j))
