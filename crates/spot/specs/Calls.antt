-- The call that reads a spot: what it asks, and what it answers then. Assumes nothing.
use Rattle.std.specs.Prelude.{◌≡◌, Result, List, [], ◌∷◌, ◌++◌, ℕ, ◌*◌, ◌≤◌, eqb}
use Rattle.planes.specs.Planes.{Planes, lengths, plane_of}
use Rattle.questions.specs.Questions.{Question, question, ask, size_questions}
use Rattle.questions.specs.declared.Refusal.{Refusal}
use Rattle.questions.specs.Calls.{Call, Outcome}
use Rattle.window.specs.Window.{window_sum, window_inside, largest_sum, WindowRoom}
use Rattle.spot.specs.Spot.{Sums, next_kept, reading}
use Rattle.spot.specs.declared.Kept.{Kept}
use Rattle.spot.specs.declared.Reading.{Reading}

-- ---- what is given: a frame's width, height and three planes, the window's first row and column, and what was kept
pub record SpotGiven : Type 0 where
  pub width : ℕ
  pub height : ℕ
  pub three : Planes (List ℕ)
  pub row : ℕ
  pub column : ℕ
  pub kept : Kept

abbrev pub spot_given : ℕ → ℕ → Planes (List ℕ) → ℕ → ℕ → Kept → SpotGiven
spot_given width height three row column kept = record { width = width; height = height; three = three; row = row; column = column; kept = kept }

-- ---- the questions, in the documents' order: 1, 2, 6 of three planes with so many samples, 19
abbrev pub spot_questions : ℕ → ℕ → Planes ℕ → ℕ → ℕ → List Question
spot_questions width height samples row column =
    size_questions 2 width height
    ++ (question 6 (eqb samples.red (width * height)) ∷ question 6 (eqb samples.green (width * height)) ∷ question 6 (eqb samples.blue (width * height))
    ∷ question 19 (window_inside width height row column) ∷ [])

abbrev pub questions_of : SpotGiven → List Question
questions_of g = spot_questions g.width g.height (lengths g.three) g.row g.column

-- ---- what is promised
-- the window's sums of three planes, which stand row by row in lists
abbrev pub window_sums : ℕ → Planes (List ℕ) → ℕ → ℕ → Sums
window_sums width three row column = record {
  red = window_sum (plane_of 0 width three.red) row column;
  green = window_sum (plane_of 0 width three.green) row column;
  blue = window_sum (plane_of 0 width three.blue) row column;
}

abbrev pub sums_of : SpotGiven → Sums
sums_of g = window_sums g.width g.three g.row g.column

-- the call: what it leaves is what is kept
abbrev pub spot_call : SpotGiven → Call Reading Kept
spot_call g = record {
  questions = questions_of g;
  answer = reading g.kept (sums_of g);
  new = next_kept g.kept (sums_of g);
  old = g.kept;
}

-- sums of 16-bit samples, which floats hold exactly
pub record Small (s : Sums) : Type 0 where
  pub red : s.red ≤ largest_sum
  pub green : s.green ≤ largest_sum
  pub blue : s.blue ≤ largest_sum

-- its answer r, and what is kept after it, accepted or refused; and the sums of an accepted frame are small
pub record SpotResult (g : SpotGiven) (r : Result Reading Refusal) (after : Kept) : Type 0 where
  pub result : Outcome (spot_call g) r after
  pub small : ask (questions_of g) ≡ 0 → Small (sums_of g)

-- ---- inner: what the sums of three planes ask and promise
pub record PlanesRoom (width : ℕ) (samples : Planes ℕ) (row column : ℕ) : Type 0 where
  pub red : WindowRoom width samples.red row column
  pub green : WindowRoom width samples.green row column
  pub blue : WindowRoom width samples.blue row column

pub record PlaneSums (width : ℕ) (three : Planes (List ℕ)) (row column : ℕ) (r : Sums) : Type 0 where
  pub sums : r ≡ window_sums width three row column
  pub small : Small r
