-- The laws of the tally: each count after a call, and after every list of calls from zero. Assumes nothing.
use mathlib.Core.Path.{◌≡◌, refl, sym, ◌∙◌, ap}
use mathlib.Core.List.{List, [], ◌∷◌}
use Prim.Native.Nat.{ℕ, zero, suc, ◌+◌, ◌≤◌}
use native.Mathlib.Nat.{zero-add}
use native.Mathlib.Omega.{arith}
use Rattle.tally.specs.Tally.{largest_count, stopped, finished_after, refused_after, rounds_after, tally, zero_tally, next_tally, Counted, tally_after, if_zero, accepted_calls, refused_calls, accepted_rounds, own_count}
use Rattle.tally.specs.declared.Tally.{Tally}

-- ---- a count r after a call that answered n
module _ (before n : ℕ) {r : ℕ} where
  pub finished_yes : n ≡ 0 → r ≡ stopped (before + 1) → r ≡ finished_after before n
  unfolding finished_after
  finished_yes z e = e ∙ ap (finished_after before) (sym z)

  pub refused_yes : n ≡ 0 → r ≡ before → r ≡ refused_after before n
  unfolding refused_after
  refused_yes z e = e ∙ ap (refused_after before) (sym z)

  pub rounds_yes : (rounds : ℕ) → n ≡ 0 → r ≡ stopped (before + rounds) → r ≡ rounds_after before n rounds
  unfolding rounds_after
  rounds_yes rounds z e = e ∙ ap (λ (k : ℕ). rounds_after before k rounds) (sym z)

pub finished_no : (before n : ℕ) {r : ℕ} → (n ≡ 0 → ⊥) → r ≡ before → r ≡ finished_after before n
unfolding finished_after
finished_no before zero h e = absurd (h refl)
finished_no before (suc n) h e = e

pub refused_no : (before n : ℕ) {r : ℕ} → (n ≡ 0 → ⊥) → r ≡ stopped (before + 1) → r ≡ refused_after before n
unfolding refused_after
refused_no before zero h e = absurd (h refl)
refused_no before (suc n) h e = e

pub rounds_no : (before n rounds : ℕ) {r : ℕ} → (n ≡ 0 → ⊥) → r ≡ before → r ≡ rounds_after before n rounds
unfolding rounds_after
rounds_no before zero rounds h e = absurd (h refl)
rounds_no before (suc n) rounds h e = e

-- ---- a list of calls
-- no count is above the largest
record Counts (t : Tally) : Type 0 where
  finished : t.finished ≤ largest_count
  refused : t.refused ≤ largest_count
  rounds : t.rounds ≤ largest_count

-- the next tally's are not, if this one's are not
counts_next : (n rounds : ℕ) (t : Tally) → Counts t → Counts (next_tally n rounds t)
unfolding finished_after refused_after rounds_after
counts_next zero rounds t c = record { finished = omega arith; refused = c.refused; rounds = omega arith }
counts_next (suc n) rounds t c = record { finished = c.finished; refused = omega arith; rounds = c.rounds }

stopped_twice : (a m b : ℕ) → stopped (stopped (a + m) + b) ≡ stopped (a + (m + b))
stopped_twice a m b = omega arith

-- a call, and x, y and z more of each count after it
next_counts : (n rounds x y z : ℕ) (t : Tally)
    → let u = next_tally n rounds t in
    tally (stopped (u.finished + x)) (stopped (u.refused + y)) (stopped (u.rounds + z))
    ≡ tally (stopped (t.finished + (if_zero n 1 0 + x))) (stopped (t.refused + (if_zero n 0 1 + y))) (stopped (t.rounds + (if_zero n rounds 0 + z)))
unfolding finished_after refused_after rounds_after
next_counts zero rounds x y z t = λ i. tally (stopped_twice t.finished 1 x i) (stopped (t.refused + sym (zero-add y) i)) (stopped_twice t.rounds rounds z i)
next_counts (suc n) rounds x y z t = λ i. tally (stopped (t.finished + sym (zero-add x) i)) (stopped_twice t.refused 1 y i) (stopped (t.rounds + sym (zero-add z) i))

-- from any tally on
counted_from : (t : Tally) → Counts t → (calls : List Counted)
    → tally_after t calls ≡ tally (stopped (t.finished + accepted_calls calls)) (stopped (t.refused + refused_calls calls)) (stopped (t.rounds + accepted_rounds calls))
unfolding tally_after accepted_calls refused_calls accepted_rounds
counted_from t c [] = λ i. tally (same t.finished c.finished i) (same t.refused c.refused i) (same t.rounds c.rounds i)
  where
    same : (n : ℕ) → n ≤ largest_count → n ≡ stopped (n + 0)
    same n b = omega arith
counted_from t c (call ∷ calls) =
    counted_from (next_tally call.number call.rounds t) (counts_next call.number call.rounds t c) calls
    ∙ next_counts call.number call.rounds (accepted_calls calls) (refused_calls calls) (accepted_rounds calls) t

-- The tally over every list of finishing calls from zero is the list's own count: accepted calls, refused calls, the rounds of the accepted
-- ones, each cut at the largest count.
pub tally_of_list : (calls : List Counted) → tally_after zero_tally calls ≡ own_count calls
tally_of_list calls = counted_from zero_tally (record { finished = omega arith; refused = omega arith; rounds = omega arith }) calls
    ∙ (λ i. tally (stopped (zero-add (accepted_calls calls) i)) (stopped (zero-add (refused_calls calls) i)) (stopped (zero-add (accepted_rounds calls) i)))
