-- The law of the finishing call with a tally, by the call without one. Assumes nothing.
use Rattle.std.proofs.Common.{◌≡◌, ◌∙◌, ℕ}
use Rattle.questions.specs.Settings.{rounds_of}
use Rattle.questions.specs.Refusals.{Answer, number_of}
use Rattle.questions.specs.Lent.{Lent}
use Rattle.questions.specs.Calls.{Outcome}
use Rattle.tally.specs.Tally.{next_tally}
use Rattle.tally.specs.declared.Tally.{Tally}
use Rattle.finishing.specs.Calls.{FinishGiven, untallied, FinishResult}

-- Where the call without a tally answered r, and t is the tally handed back.
pub counted : (g : FinishGiven) (r : Answer) {after : Lent} → Outcome (untallied g) r after
    → {n : ℕ} {t : Tally} → n ≡ rounds_of g.settings → t ≡ next_tally (number_of r) n g.tally → FinishResult g (r, t) after
counted g r p e f = record { result = p; next = f ∙ (λ i. next_tally (p.answer.number i) (e i) g.tally) }
