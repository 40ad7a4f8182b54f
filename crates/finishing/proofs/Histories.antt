-- The tally over every list of finishing calls. Assumes nothing.
use mathlib.Core.Path.{◌≡◌, refl, ◌∙◌, ap}
use mathlib.Core.List.{List, [], ◌∷◌}
use Rattle.questions.specs.Settings.{rounds_of}
use Rattle.questions.specs.Questions.{ask}
use Rattle.tally.specs.Tally.{zero_tally, next_tally, tally_after, own_count}
use Rattle.tally.specs.declared.Tally.{Tally}
use Rattle.tally.proofs.Counting.{tally_of_list}
use Rattle.finishing.specs.Calls.{untallied}
use Rattle.finishing.specs.Histories.{FinishRun, FinishHistory, last_tally, counted_calls}

-- the calls count one after the other
counted_on : (t : Tally) (runs : List FinishRun) → FinishHistory t runs → last_tally t runs ≡ tally_after t (counted_calls runs)
unfolding tally_after
counted_on t [] h = refl
counted_on t (run ∷ runs) h =
    let n = ask (untallied run.given).questions in
    let e : run.tally ≡ next_tally n (rounds_of run.given.settings) t = h.1.next ∙ ap (next_tally n (rounds_of run.given.settings)) h.0 in
    counted_on run.tally runs h.2 ∙ ap (λ (u : Tally). tally_after u (counted_calls runs)) e

-- The tally over every list of finishing calls from zero is the list's own count: accepted calls, refused calls, the rounds of the accepted
-- ones, each cut at the largest count.
pub tally_of_history : (runs : List FinishRun) → FinishHistory zero_tally runs → last_tally zero_tally runs ≡ own_count (counted_calls runs)
tally_of_history runs h = counted_on zero_tally runs h ∙ tally_of_list (counted_calls runs)
