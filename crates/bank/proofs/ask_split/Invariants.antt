-- `bank::ask_split` meets its contract: the rooms that are left ask what all ask.
use mathlib.Core.Path.{◌≡◌}
use Prim.Native.Nat.{◌*◌}
use lib.ListN.{drop}
use Rattle.questions.specs.Questions.{ask}
use Rattle.bank.proofs.Calls.{each, is_count}
use Rattle.bank.proofs.ask_split.Given as goal

abbrev pub invariant-loop-room : goal.invariant-loop-room
invariant-loop-room l = let f = is_count (l.width * l.height) in ask (each 7 f (drop l.room-index l.room-items)) ≡ ask (each 7 f l.room-items)
