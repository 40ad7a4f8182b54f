-- Demand 3 as a function that runs it: what it promises. Assumes nothing.
use Rattle.std.specs.Prelude.{◌≡◌, false, cond, List, ℕ}
use Rattle.std.specs.Bool.{xor}
use Rattle.planes.specs.Planes.{Frame}
use Rattle.questions.specs.Settings.{framed}
use Rattle.questions.specs.Lent.{Lent, rooms_of}
use Rattle.questions.specs.Calls.{Outcome}
use Rattle.questions.specs.Refusals.{number_of}
use Rattle.questions.specs.declared.Settings.{Settings}
use Rattle.finishing.specs.Calls.{finish_call}
use Rattle.finishing.specs.Turnings.{Alike}
use Rattle.demand_3.specs.Between.{Between, in_between, first_holds, second_holds, turned_once, turned_all, turns_taken}
use Rattle.demand_3.specs.declared.Answers.{Answers}
use Rattle.demand_3.specs.declared.Standing.{Standing}

-- the frame that stands, by its shape and by which of two mosaics holds its samples
abbrev pub stands : Standing → List ℕ → List ℕ → Between
stands at first second = in_between (framed at.shape (cond at.swapped second first)) (cond at.swapped first second) at.swapped

-- a turning call from one mosaic into another, which held `to` and holds `to_after`: r is where the frame stands then
abbrev pub Moved : ℕ → Standing → List ℕ → List ℕ → Standing → List ℕ → Type 0
Moved turn at from to r to_after =
    in_between (framed r.shape (cond (xor r.swapped at.swapped) to_after from)) (cond (xor r.swapped at.swapped) from to_after) r.swapped
    ≡ turned_once turn (in_between (framed at.shape from) to at.swapped)

-- Frame f is finished as given; a list of turning calls takes it back and forth between two mosaics, the second of which held `other`;
-- what stands then is finished, with the same settings. r has both answers.
pub record FinishedAlike (turns : List ℕ) (f : Frame) (other : List ℕ) (s : Settings) (before₁ before₂ : Lent) (r : Answers) (first second : List ℕ) (after₁ after₂ : Lent) : Type 0 where
  pub given : Outcome (finish_call f s before₁) r.given after₁
  pub turned : Outcome (finish_call (turned_all turns (in_between f other false)).frame s before₂) r.turned after₂
  pub first_mosaic : first ≡ first_holds (turned_all turns (in_between f other false))
  pub second_mosaic : second ≡ second_holds (turned_all turns (in_between f other false))
  -- with the same room in their buffers both are accepted, and the planes are turned by the accepted turns; or both are refused with the same
  -- number
  pub alike : rooms_of before₁ ≡ rooms_of before₂ → Alike (turns_taken turns (in_between f other false)) f (number_of r.given) (number_of r.turned) after₁.three after₂.three
