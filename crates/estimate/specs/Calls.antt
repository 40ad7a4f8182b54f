-- The estimate call: what it asks, and what its answer and its planes are then. Assumes nothing.
use Rattle.std.specs.Prelude.{List, [], ◌∷◌, ◌++◌, ℕ, ◌*◌, length}
use Rattle.planes.specs.Planes.{Frame, Planes, lengths, listings, plane_of}
use Rattle.questions.specs.Questions.{Question, shape_questions, samples_question}
use Rattle.questions.specs.Lent.{room_questions}
use Rattle.questions.specs.Calls.{Call, plain_call}
use Rattle.estimate.specs.Estimates.{estimate}

-- ---- the questions, in document 01's order: 1, 2, 3, 6, 7 of each plane, and 9 with ceiling `top`
abbrev pub estimate_questions : ℕ → Frame → Planes ℕ → List Question
estimate_questions top f rooms =
    shape_questions f.width f.height f.layout
    ++ (room_questions (f.width * f.height) (length f.samples) rooms ++ (samples_question top f.samples ∷ []))

-- ---- what is promised
-- the three planes of a frame, row by row
unfoldable pub estimate_lists : ℕ → Frame → Planes (List ℕ)
estimate_lists top f = listings f.width f.height (estimate top f.width f.height f.layout (plane_of 0 f.width f.samples))

-- the estimate call with ceiling `top`, given frame f and three planes that held `before`: they hold its estimates then
abbrev pub estimate_call : ℕ → Frame → Planes (List ℕ) → Call (Unit {0}) (Planes (List ℕ))
estimate_call top f before = plain_call (estimate_questions top f (lengths before)) (estimate_lists top f) before
