-- The green update call: what it asks, and what its answer, its green and its work buffer are then. Assumes nothing.
use Rattle.std.specs.Prelude.{List, [], ◌∷◌, ◌++◌, ℕ, ◌*◌, eqb, leb, ℤ, length}
use Rattle.planes.specs.Planes.{Frame, listing, plane_of}
use Rattle.questions.specs.Questions.{Question, question, all_at_most, shape_questions, samples_question}
use Rattle.questions.specs.Calls.{Call, plain_call}
use Rattle.work_buffer.specs.Buffer.{zeroed}
use Rattle.update.specs.Update.{update}

-- ---- the questions, in document 01's order
-- 6 of mosaic and green, 8, 9, and 10 of green, where a plane has `count` samples up to `top`
abbrev pub updating_questions : ℕ → ℕ → List ℕ → List ℕ → ℕ → List Question
updating_questions top count mosaic green room =
    question 6 (eqb (length mosaic) count) ∷ question 6 (eqb (length green) count) ∷ question 8 (leb (8 * count) room) ∷ samples_question top mosaic ∷ question 10 (all_at_most top green) ∷ []

-- 1, 2 and 3, and then those
abbrev pub update_questions : ℕ → Frame → List ℕ → ℕ → List Question
update_questions top f green room = shape_questions f.width f.height f.layout ++ updating_questions top (f.width * f.height) f.samples green room

-- ---- what is promised
-- the updated green, row by row
unfoldable pub update_list : ℕ → Frame → List ℕ → List ℕ
update_list top f green =
    listing f.width f.height (update top f.width f.height f.layout (λ r c. (plane_of 0 f.width f.samples r c, plane_of 0 f.width green r c)))

-- the update call, given frame f, a green plane that held `green` and a work buffer that held `work`: they hold the updated green, and zeros, then
abbrev pub update_call : ℕ → Frame → List ℕ → List ℤ → Call (Unit {0}) (List ℕ × List ℤ)
update_call top f green work = plain_call (update_questions top f green (length work)) (update_list top f green, zeroed f.width f.height work) (green, work)
