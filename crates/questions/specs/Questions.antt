-- Document 01, "Questions, in this order": what a call asks of what it was given. Assumes nothing.
use Rattle.std.specs.Prelude.{ℕ, Bool, true, cond, ◌&&◌, List, [], ◌∷◌, ◌++◌, leb}
use Rattle.questions.specs.Settings.{ceiling_of}
use Rattle.questions.specs.declared.Settings.{Settings}

-- a question: its number, and whether it is answered yes
pub record Question : Type 0 where
  pub number : ℕ
  pub yes : Bool

abbrev pub question : ℕ → Bool → Question
question n b = record { number = n; yes = b }

-- the number of the first question answered no, or 0
unfoldable pub ask : List Question → ℕ
ask [] = 0
ask (q ∷ qs) = cond q.yes (ask qs) q.number

unfoldable pub between : ℕ → ℕ → ℕ → Bool
between low high n = leb low n && leb n high

unfoldable pub all_at_most : ℕ → List ℕ → Bool
all_at_most top [] = true
all_at_most top (x ∷ xs) = leb x top && all_at_most top xs

-- ---- the questions that calls share
-- 1 width and 2 height in range, from `least` on
abbrev pub size_questions : ℕ → ℕ → ℕ → List Question
size_questions least width height = question 1 (between least 2048 width) ∷ question 2 (between least 2048 height) ∷ []

-- 1 and 2 of a frame, and 3 layout 0 to 7
abbrev pub shape_questions : ℕ → ℕ → ℕ → List Question
shape_questions width height layout = size_questions 2 width height ++ (question 3 (leb layout 7) ∷ [])

-- 4 rounds at most 64, and 5 threshold at most the ceiling
abbrev pub settings_questions : Settings → List Question
settings_questions s = question 4 (leb s.rounds 64) ∷ question 5 (leb s.threshold (ceiling_of s)) ∷ []

-- 1 to 5, of a frame that is to be finished
abbrev pub frame_questions : ℕ → ℕ → ℕ → Settings → List Question
frame_questions width height layout s = shape_questions width height layout ++ settings_questions s

-- 9 samples at most `top`
abbrev pub samples_question : ℕ → List ℕ → Question
samples_question top samples = question 9 (all_at_most top samples)
