-- The calls on turns: what each asks, and what its answer and its buffer are then. Assumes nothing.
use Rattle.std.specs.Prelude.{List, [], ◌∷◌, ◌++◌, ℕ, ◌*◌, leb, eqb, length}
use Rattle.planes.specs.Planes.{Frame}
use Rattle.questions.specs.Questions.{Question, question, shape_questions}
use Rattle.questions.specs.Calls.{Call}
use Rattle.questions.specs.declared.Shape.{Shape}
use Rattle.turns.specs.Pictures.{Picture, turned}
use Rattle.turns.specs.Frames.{turn_frame}

-- ---- the questions, in document 01's order
-- then-another: 16 of both turns
abbrev pub then_questions : ℕ → ℕ → List Question
then_questions first second = question 16 (leb first 7) ∷ question 16 (leb second 7) ∷ []

-- the turned width, height and layout: 16, 1, 2, 3
abbrev pub shape_turn_questions : ℕ → ℕ → ℕ → ℕ → List Question
shape_turn_questions turn width height layout = question 16 (leb turn 7) ∷ shape_questions width height layout

-- 6 of `given` samples, and 7 of a second buffer of `room`, where a frame has `count`
abbrev pub length_questions : ℕ → ℕ → ℕ → List Question
length_questions count given room = question 6 (eqb given count) ∷ question 7 (eqb room count) ∷ []

-- the turning call's questions, of a frame and a second buffer of `room`: 16, 1, 2, 3, 6, 7
abbrev pub turn_questions : ℕ → Frame → ℕ → List Question
turn_questions turn f room = shape_turn_questions turn f.width f.height f.layout ++ length_questions (f.width * f.height) (length f.samples) room

-- ---- what is promised
-- a width, a height and a layout with nothing at the places, turned
unfoldable pub shape_turned : ℕ → ℕ → ℕ → ℕ → Picture Unit
shape_turned turn width height layout = turned turn (record { width = width; height = height; layout = layout; at = λ r c. tt })

-- the same as a shape
abbrev pub turned_shape : ℕ → Shape → Shape
turned_shape turn s = let p = shape_turned turn s.width s.height s.layout in record { width = p.width; height = p.height; layout = p.layout }

-- a frame's width, height and layout
abbrev pub shape_of : Frame → Shape
shape_of f = record { width = f.width; height = f.height; layout = f.layout }

-- the turning call, given frame f and a second buffer that held `before`: the turned width, height and layout are handed back, and the buffer holds the
-- turned samples then
abbrev pub turn_call : ℕ → Frame → List ℕ → Call Shape (List ℕ)
turn_call turn f before = record {
  questions = turn_questions turn f (length before);
  answer = shape_of (turn_frame turn f);
  new = (turn_frame turn f).samples;
  old = before;
}
