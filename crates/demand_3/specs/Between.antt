-- A frame that is turned back and forth between two mosaics. Assumes nothing.
use Rattle.std.specs.Prelude.{Bool, cond, not, List, [], ◌∷◌, ℕ}
use Rattle.planes.specs.Planes.{Frame}
use Rattle.questions.specs.declared.Shape.{Shape}
use Rattle.questions.specs.Calls.{Call, if_accepted}
use Rattle.turns.specs.Frames.{turn_frame}
use Rattle.turns.specs.Turning.{turn_call}

-- the frame that stands in one of them, what the other one holds, and whether it stands in the second
pub record Between : Type 0 where
  pub frame : Frame
  pub other : List ℕ
  pub swapped : Bool

abbrev pub in_between : Frame → List ℕ → Bool → Between
in_between f other swapped = record { frame = f; other = other; swapped = swapped }

-- what each mosaic holds
abbrev pub first_holds : Between → List ℕ
first_holds b = cond b.swapped b.other b.frame.samples

abbrev pub second_holds : Between → List ℕ
second_holds b = cond b.swapped b.frame.samples b.other

-- a turning call from the one into the other
abbrev pub call_between : ℕ → Between → Call Shape (List ℕ)
call_between t b = turn_call t b.frame b.other

-- and what it leaves
unfoldable pub turned_once : ℕ → Between → Between
turned_once t b = if_accepted (call_between t b).questions (in_between (turn_frame t b.frame) b.frame.samples (not b.swapped)) b

-- a list of them
unfoldable pub turned_all : List ℕ → Between → Between
turned_all [] b = b
turned_all (t ∷ ts) b = turned_all ts (turned_once t b)

-- those that are accepted, in order
unfoldable pub turns_taken : List ℕ → Between → List ℕ
turns_taken [] b = []
turns_taken (t ∷ ts) b = if_accepted (call_between t b).questions (t ∷ turns_taken ts (turned_once t b)) (turns_taken ts (turned_once t b))
