-- `bank::ask_join` meets its contract: the bands that are left ask what all ask.
use mathlib.Core.Path.{◌≡◌}
use Prim.Native.Nat.{◌*◌}
use lib.ListN.{drop}
use Rattle.questions.specs.Questions.{ask}
use Rattle.bank.proofs.Calls.{each, have_count}
use Rattle.bank.proofs.ask_join.Given as goal

abbrev pub invariant-loop-band : goal.invariant-loop-band
invariant-loop-band l = let f = have_count (l.width * l.height) in ask (each 6 f (drop l.band-index l.band-items)) ≡ ask (each 6 f l.band-items)
