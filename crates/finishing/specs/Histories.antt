-- Lists of finishing calls, each given the tally that the one before it handed back. Assumes nothing.
use Rattle.std.specs.Prelude.{◌≡◌, List, [], ◌∷◌}
use Rattle.questions.specs.Settings.{rounds_of}
use Rattle.questions.specs.Questions.{ask}
use Rattle.questions.specs.Refusals.{Answer}
use Rattle.questions.specs.Lent.{Lent}
use Rattle.tally.specs.Tally.{Counted}
use Rattle.tally.specs.declared.Tally.{Tally}
use Rattle.finishing.specs.Calls.{FinishGiven, untallied, FinishResult}

-- what a finishing call was given, what it answered and which tally it handed back, and what its buffers held after
pub record FinishRun : Type 0 where
  pub given : FinishGiven
  pub answer : Answer
  pub tally : Tally
  pub after : Lent

-- a list of calls that ran, the first of them given tally t
abbrev pub FinishHistory : Tally → List FinishRun → Type 0
FinishHistory t [] = Unit
FinishHistory t (run ∷ runs) = (run.given.tally ≡ t) × FinishResult run.given (run.answer, run.tally) run.after × FinishHistory run.tally runs

-- the tally that they leave
abbrev pub last_tally : Tally → List FinishRun → Tally
last_tally t [] = t
last_tally t (run ∷ runs) = last_tally run.tally runs

-- the calls as the tally sees them: the number of the first question answered no, and the rounds
abbrev pub counted_calls : List FinishRun → List Counted
counted_calls [] = []
counted_calls (run ∷ runs) = record { number = ask (untallied run.given).questions; rounds = rounds_of run.given.settings } ∷ counted_calls runs
