-- Lists of calls that read a spot, each given what the one before it left. Assumes nothing.
use Rattle.std.specs.Prelude.{◌≡◌, Bool, true, false, ◌||◌, Result, List, [], ◌∷◌}
use Rattle.questions.specs.declared.Refusal.{Refusal}
use Rattle.questions.specs.Calls.{if_accepted}
use Rattle.spot.specs.Spot.{Sums, start, kept, spot_of, is_lit}
use Rattle.spot.specs.Calls.{SpotGiven, questions_of, sums_of, SpotResult}
use Rattle.spot.specs.declared.Kept.{Kept}
use Rattle.spot.specs.declared.Reading.{Reading}
use Rattle.spot.specs.declared.Reading.TheVariants.{Starting, Dark, Steady}

-- what a call was given, what it answered, and what was kept after it
pub record SpotRun : Type 0 where
  pub given : SpotGiven
  pub answer : Result Reading Refusal
  pub after : Kept

-- a list of calls that ran, the first of them given k
abbrev pub SpotHistory : Kept → List SpotRun → Type 0
SpotHistory k [] = Unit
SpotHistory k (run ∷ runs) = (run.given.kept ≡ k) × SpotResult run.given run.answer run.after × SpotHistory run.after runs

-- what is kept after them
abbrev pub last_kept : Kept → List SpotRun → Kept
last_kept k [] = k
last_kept k (run ∷ runs) = last_kept run.after runs

-- ---- lit frames
-- whether a call's frame was lit: the call was accepted, and the blue sum is above 0
abbrev pub lit_frame : SpotRun → Bool
lit_frame run = if_accepted (questions_of run.given) (is_lit (sums_of run.given)) false

-- whether a lit frame has come
abbrev pub lit_seen : List SpotRun → Bool
lit_seen [] = false
lit_seen (run ∷ runs) = lit_frame run || lit_seen runs

-- the frame has sums s if it was lit; and so has every lit frame of a list
abbrev pub SameSums : Sums → SpotRun → Type 0
SameSums s run = lit_frame run ≡ true → sums_of run.given ≡ s

abbrev pub AllSameSums : Sums → List SpotRun → Type 0
AllSameSums s [] = Unit
AllSameSums s (run ∷ runs) = SameSums s run × AllSameSums s runs

-- ---- what is then promised, by whether a lit frame has come
-- what is kept: three zeros before, and the floats of s from then on
abbrev pub standing : Sums → Bool → Kept
standing s false = start
standing s true = kept (spot_of s) true

-- the reading of a frame that is lit or not: starting before, and then dark, or steady with the floats of s
abbrev pub steady_reading : Sums → Bool → Bool → Reading
steady_reading s seen true = Steady (spot_of s)
steady_reading s true false = Dark
steady_reading s false false = Starting
