-- Document 01, "Filter bank": values to join lie in −131,040..131,040, so a sum lies within ±75,479,040. Of what the call join leaves.
-- Assumes nothing.
use mathlib.Core.Path.{◌≡◌, sym, ◌∙◌, subst}
use mathlib.Core.List.{List}
use Prim.Native.Nat.{ℕ, ◌+◌, ◌*◌, ◌/◌, ◌%◌, ◌≤◌, ◌<◌}
use native.Mathlib.Omega.{arith}
use lib.IntN.{ℤ, pos, nat_abs}
use lib.ListN.{length}
use Rattle.integers.proofs.Lists.{get_or-tabulate}
use Rattle.planes.specs.Planes.{listing, plane_of}
use Rattle.planes.specs.Lists.{value}
use Rattle.planes.proofs.Planes.{row_inside, column_inside, length-listing}
use Rattle.std.proofs.lemmas.Nat.{mul-add-lt}
use Rattle.questions.specs.Refusals.{Answer, number_of}
use Rattle.questions.specs.Calls.{Outcome}
use Rattle.questions.proofs.Answering.{new_left}
use Rattle.filters.specs.Bank.{Bands, join}
use Rattle.filters.proofs.Ranges.{Within, join_range}
use Rattle.bank.specs.Planes.{Plane, plane, bands_of}
use Rattle.bank.specs.Calls.{to_join, sum_within, join_list, join_call}
use Rattle.bank.proofs.Calls.{Joinable, joinable}

-- a list's plane is within what its values are
plane_within : (most : ℕ) (l : List ℤ) (w h : ℕ) → Plane most l w h → Within most w h (plane w l)
unfolding plane_of
plane_within most l w h p r c hr hc = p.small (r * w + c) (mul-add-lt _ _ _ _ hr hc)

-- the sums of bands that may be joined
list_within : (w h : ℕ) (given : Bands (List ℤ)) (room : ℕ) → Joinable w h given room → (k : ℕ) → k < length (join_list w h given) → nat_abs (value (join_list w h given) k) ≤ sum_within
unfolding join_list listing
list_within w h given room j k b =
    let i : k < w * h = omega (arith, length-listing w h sums, b) in
    subst (λ (x : ℤ). nat_abs x ≤ sum_within) (sym (get_or-tabulate (w * h) (λ n. sums (n / w) (n % w)) k (pos 0) i))
    (join_range 1 w h j.sizes.width_from j.sizes.height_from (bands_of w given)
    (plane_within to_join given.band1 w h j.plane1) (plane_within to_join given.band2 w h j.plane2)
    (plane_within to_join given.band3 w h j.plane3) (plane_within to_join given.band4 w h j.plane4)
    (k / w) (k % w) (row_inside w h k i) (column_inside w h k i))
  where
    sums : ℕ → ℕ → ℤ
    sums = join 1 w h (bands_of w given)

-- Every sum that an accepted join call leaves lies within ±75,479,040.
pub sums_in_range : (w h : ℕ) (given : Bands (List ℤ)) (before : List ℤ) (r : Answer) (after : List ℤ) → Outcome (join_call w h given before) r after → number_of r ≡ 0
    → (k : ℕ) → k < length after → nat_abs (value after k) ≤ sum_within
sums_in_range w h given before r after p z =
    subst (λ (l : List ℤ). (k : ℕ) → k < length l → nat_abs (value l k) ≤ sum_within) (sym (new_left (join_call w h given before) p.leaves (sym p.answer.number ∙ z)))
    (list_within w h given (length before) (joinable w h given (length before) (sym z ∙ p.answer.number)))
