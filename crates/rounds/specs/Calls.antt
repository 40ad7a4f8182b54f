-- The rounds call: what it asks, and what its answer, its planes and its work buffers are then. Assumes nothing.
use Rattle.std.specs.Prelude.{List, [], ◌∷◌, ◌++◌, ℕ}
use Rattle.planes.specs.Layout.{two_levels}
use Rattle.planes.specs.Planes.{Frame, Planes, planes, listing, plane_of}
use Rattle.questions.specs.Settings.{ceiling_of}
use Rattle.questions.specs.Questions.{Question, question, all_at_most}
use Rattle.questions.specs.Lent.{Lent, rooms_of, lent_questions}
use Rattle.questions.specs.Calls.{Call, plain_call}
use Rattle.questions.specs.declared.Settings.{Settings}
use Rattle.work_buffer.specs.Buffer.{zeroed, wide_zeroed}
use Rattle.rounds.specs.Rounds.{rounds}

-- ---- the questions, in document 01's order
-- 10 of the three planes, with ceiling `top`
abbrev pub planes_questions : ℕ → Planes (List ℕ) → List Question
planes_questions top given = question 10 (all_at_most top given.red) ∷ question 10 (all_at_most top given.green) ∷ question 10 (all_at_most top given.blue) ∷ []

-- 1 to 9, with 18 after 8, and then those
abbrev pub rounds_questions : Frame → Settings → Lent → List Question
rounds_questions f s before = lent_questions f s (rooms_of before) ++ planes_questions (ceiling_of s) before.three

-- ---- what is promised
-- red and blue after the rounds, row by row; green is as it was given
unfoldable pub rounds_lists : Frame → Settings → Planes (List ℕ) → Planes (List ℕ)
rounds_lists f s given = planes (listing f.width f.height (λ r c. (after r c).red)) given.green (listing f.width f.height (λ r c. (after r c).blue))
  where
    plane : List ℕ → ℕ → ℕ → ℕ
    plane = plane_of 0 f.width

    after : ℕ → ℕ → Planes ℕ
    after =
        rounds s f.width f.height f.layout
        (λ r c. (plane f.samples r c, planes (plane given.red r c) (plane given.green r c) (plane given.blue r c)))

-- what an accepted call makes of what it is lent
abbrev pub with_rounds : Frame → Settings → Lent → Lent
with_rounds f s before = record {
  three = rounds_lists f s before.three;
  work = zeroed f.width f.height before.work;
  wide = wide_zeroed (two_levels f.layout) f.width f.height before.wide;
}

-- the rounds call, given frame f, settings s, and planes and work buffers that held `before`
abbrev pub rounds_call : Frame → Settings → Lent → Call (Unit {0}) Lent
rounds_call f s before = plain_call (rounds_questions f s before) (with_rounds f s before) before
