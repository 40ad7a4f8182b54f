-- Document 01, "Packet", at its end: the tally of frames finished, frames refused and rounds run. Assumes nothing.
use Rattle.std.specs.Prelude.{List, [], ◌∷◌, ℕ, zero, suc, ◌+◌, min}
use Rattle.tally.specs.declared.Tally.{Tally}

-- each count is 32 bits wide and stops at 4,294,967,295
abbrev pub largest_count : ℕ
largest_count = 4294967295

abbrev pub stopped : ℕ → ℕ
stopped n = min largest_count n

-- Each count after a finishing call that answered `number`, 0 for accepted: an accepted frame adds 1 to the first and its rounds to the
-- third, a refused one adds 1 to the second only.
unfoldable pub finished_after : ℕ → ℕ → ℕ
finished_after before zero = stopped (before + 1)
finished_after before (suc n) = before

unfoldable pub refused_after : ℕ → ℕ → ℕ
refused_after before zero = before
refused_after before (suc n) = stopped (before + 1)

unfoldable pub rounds_after : ℕ → ℕ → ℕ → ℕ
rounds_after before zero rounds = stopped (before + rounds)
rounds_after before (suc n) rounds = before

abbrev pub tally : ℕ → ℕ → ℕ → Tally
tally finished refused rounds = record { finished = finished; refused = refused; rounds = rounds }

abbrev pub zero_tally : Tally
zero_tally = tally 0 0 0

-- the next tally
abbrev pub next_tally : ℕ → ℕ → Tally → Tally
next_tally number rounds t = tally (finished_after t.finished number) (refused_after t.refused number) (rounds_after t.rounds number rounds)

-- ---- a list of finishing calls, as the tally sees them
-- the number that a call answered, 0 for accepted, and its rounds
pub record Counted : Type 0 where
  pub number : ℕ
  pub rounds : ℕ

-- the tally that they leave, the first of them given tally t
unfoldable pub tally_after : Tally → List Counted → Tally
tally_after t [] = t
tally_after t (call ∷ calls) = tally_after (next_tally call.number call.rounds t) calls

-- the list's own counts: calls accepted, calls refused, and the rounds of those accepted
abbrev pub if_zero : ℕ → ℕ → ℕ → ℕ
if_zero number this other = elim number [ zero ↦ this | suc n ↦ other ]

unfoldable pub accepted_calls : List Counted → ℕ
accepted_calls [] = 0
accepted_calls (call ∷ calls) = if_zero call.number 1 0 + accepted_calls calls

unfoldable pub refused_calls : List Counted → ℕ
refused_calls [] = 0
refused_calls (call ∷ calls) = if_zero call.number 0 1 + refused_calls calls

unfoldable pub accepted_rounds : List Counted → ℕ
accepted_rounds [] = 0
accepted_rounds (call ∷ calls) = if_zero call.number call.rounds 0 + accepted_rounds calls

-- each cut at the largest count
abbrev pub own_count : List Counted → Tally
own_count calls = tally (stopped (accepted_calls calls)) (stopped (refused_calls calls)) (stopped (accepted_rounds calls))
