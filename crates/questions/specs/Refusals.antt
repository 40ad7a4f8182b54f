-- Document 01's and 02's numbers of refusals, and of an answer that is a refusal or not. Assumes nothing.
use Rattle.std.specs.Prelude.{ℕ, List, ◌++◌, codes, decimal, Result, Ok, Err}
use Rattle.questions.specs.declared.Refusal.{Refusal}
use Rattle.questions.specs.declared.Refusal.TheVariants as refusal

abbrev pub refusal_number : Refusal → ℕ
refusal_number refusal.Width = 1
refusal_number refusal.Height = 2
refusal_number refusal.Layout = 3
refusal_number refusal.Rounds = 4
refusal_number refusal.Threshold = 5
refusal_number refusal.GivenLength = 6
refusal_number refusal.FilledLength = 7
refusal_number refusal.WorkLength = 8
refusal_number refusal.Sample = 9
refusal_number refusal.PlaneSample = 10
refusal_number refusal.StoreLength = 11
refusal_number refusal.Distance = 12
refusal_number refusal.DistanceOutside = 13
refusal_number refusal.PacketRoom = 14
refusal_number refusal.BankValue = 15
refusal_number refusal.Turn = 16
refusal_number refusal.ProgramInput = 17
refusal_number refusal.WideWorkLength = 18
refusal_number refusal.Window = 19

-- as it is printed, the number in decimal
abbrev pub refusal_text : Refusal → List ℕ
refusal_text refusal = codes "refused " ++ decimal (refusal_number refusal)

-- an answer that hands back nothing beside
abbrev pub Answer : Type 0
Answer = Result (Unit {0}) Refusal

-- of an answer: a refusal's, or 0
abbrev pub number_of : {A : Type 0} → Result A Refusal → ℕ
number_of (Ok accepted) = 0
number_of (Err why) = refusal_number why
