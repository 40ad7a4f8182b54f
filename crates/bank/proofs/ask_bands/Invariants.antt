-- `bank::ask_bands` meets its contract: the bands that are left ask what all ask.
use mathlib.Core.Path.{◌≡◌}
use lib.ListN.{drop}
use Rattle.questions.specs.Questions.{ask}
use Rattle.bank.proofs.Calls.{each, are_within}
use Rattle.bank.proofs.ask_bands.Given as goal

abbrev pub invariant-loop-values : goal.invariant-loop-values
invariant-loop-values l = ask (each 15 (are_within l.most) (drop l.values-index l.values-items)) ≡ ask (each 15 (are_within l.most) l.values-items)
