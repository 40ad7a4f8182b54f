-- Demand 3's list of turning calls, and planes turned by its accepted turns. Assumes nothing.
use Rattle.std.specs.Prelude.{◌≡◌, Result, Ok, Err, List, [], ◌∷◌, ℕ}
use Rattle.planes.specs.Planes.{Frame, frame, Planes, planes}
use Rattle.questions.specs.Settings.{framed}
use Rattle.questions.specs.Calls.{Outcome}
use Rattle.questions.specs.declared.Shape.{Shape}
use Rattle.questions.specs.declared.Refusal.{Refusal}
use Rattle.turns.specs.Frames.{turn_frame}
use Rattle.turns.specs.Turning.{turn_call}

-- a turning call beside the frame that it was given: its turn, what its second buffer held, what it answered, and what the buffer held
-- after
pub record TurnRun : Type 0 where
  pub turn : ℕ
  pub before : List ℕ
  pub answer : Result Shape Refusal
  pub after : List ℕ

-- What stands after it, if f stood before: an accepted one leaves the turned width, height and layout and the second buffer's samples;
-- a refused one leaves all four.
abbrev pub frame_after : Frame → Result Shape Refusal → List ℕ → Frame
frame_after f (Ok turned) after = framed turned after
frame_after f (Err why) after = f

-- a list of turning calls that ran, each given what the last accepted one before it left, or frame f while none was accepted
abbrev pub TurnHistory : Frame → List TurnRun → Type 0
TurnHistory f [] = Unit
TurnHistory f (run ∷ runs) = Outcome (turn_call run.turn f run.before) run.answer run.after × TurnHistory (frame_after f run.answer run.after) runs

-- what stands after the list
abbrev pub standing : Frame → List TurnRun → Frame
standing f [] = f
standing f (run ∷ runs) = standing (frame_after f run.answer run.after) runs

-- the list's accepted turns, in order
abbrev pub if_turned : Result Shape Refusal → ℕ → List ℕ → List ℕ
if_turned (Ok turned) turn turns = turn ∷ turns
if_turned (Err why) turn turns = turns

abbrev pub accepted_turns : List TurnRun → List ℕ
accepted_turns [] = []
accepted_turns (run ∷ runs) = if_turned run.answer run.turn (accepted_turns runs)

-- a frame turned by turns, from first to last
unfoldable pub turned_through : List ℕ → Frame → Frame
turned_through [] f = f
turned_through (t ∷ ts) f = turned_through ts (turn_frame t f)

-- a plane of frame f's width and height, turned as a mosaic is; and three
unfoldable pub turned_plane : List ℕ → Frame → List ℕ → List ℕ
turned_plane ts f plane = (turned_through ts (frame f.width f.height f.layout plane)).samples

abbrev pub turned_planes : List ℕ → Frame → Planes (List ℕ) → Planes (List ℕ)
turned_planes ts f p = planes (turned_plane ts f p.red) (turned_plane ts f p.green) (turned_plane ts f p.blue)

-- ---- demand 3's conclusion
-- A first finishing, of frame f, has number n₁ and leaves planes p₁; a second has n₂ and leaves p₂. Both are accepted, and each plane of the
-- second is the first's plane of that colour turned by `turns` in order; or both are refused with the same number.
pub data Alike (turns : List ℕ) (f : Frame) (n₁ n₂ : ℕ) (p₁ p₂ : Planes (List ℕ)) : Type 0 where
  both_accepted : n₁ ≡ 0 → n₂ ≡ 0 → p₂ ≡ turned_planes turns f p₁ → Alike turns f n₁ n₂ p₁ p₂
  both_refused : (n₁ ≡ 0 → ⊥) → n₁ ≡ n₂ → Alike turns f n₁ n₂ p₁ p₂
