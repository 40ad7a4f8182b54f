-- What a call is lent that is given a frame and its settings: three planes, a work buffer, and a wide one, which two levels ask for. And what such a
-- call asks: the finishing call, and the rounds call before 10. Assumes nothing.
use Rattle.std.specs.Prelude.{Bool, true, cond, List, [], ◌∷◌, ◌++◌, ℕ, ◌*◌, eqb, leb, ℤ, length}
use Rattle.planes.specs.Layout.{two_levels}
use Rattle.planes.specs.Planes.{Frame, Planes, planes, lengths}
use Rattle.questions.specs.Settings.{ceiling_of}
use Rattle.questions.specs.Questions.{Question, question, frame_questions, samples_question}
use Rattle.questions.specs.declared.Settings.{Settings}
use Rattle.questions.specs.declared.Lengths.{Lengths}

-- ---- what is lent
pub record Lent : Type 0 where
  pub three : Planes (List ℕ)
  pub work : List ℤ
  pub wide : List ℤ

-- by the lists of red, green and blue, of the work buffer and of the wide one
abbrev pub lent : List ℕ → List ℕ → List ℕ → List ℤ → List ℤ → Lent
lent red green blue work wide = record { three = planes red green blue; work = work; wide = wide }

-- how much room there is in each
pub record Rooms : Type 0 where
  pub three : Planes ℕ
  pub work : ℕ
  pub wide : ℕ

abbrev pub rooms : ℕ → ℕ → ℕ → ℕ → ℕ → Rooms
rooms red green blue work wide = record { three = planes red green blue; work = work; wide = wide }

-- by the numbers that a check is given
abbrev pub rooms_in : Lengths → Rooms
rooms_in given = rooms given.red given.green given.blue given.work given.wide

abbrev pub rooms_of : Lent → Rooms
rooms_of given = record { three = lengths given.three; work = length given.work; wide = length given.wide }

-- ---- the questions, in document 01's order
-- 6 of a mosaic, and 7 of three planes, where each has `count` samples: the estimate call's too
abbrev pub room_questions : ℕ → ℕ → Planes ℕ → List Question
room_questions count given room =
    question 6 (eqb given count) ∷ question 7 (eqb room.red count) ∷ question 7 (eqb room.green count) ∷ question 7 (eqb room.blue count) ∷ []

-- 18: whether a two-level call has at least 8·w·h wide numbers. A one-level call does not ask it: every buffer will do.
unfoldable pub wide_enough : Bool → ℕ → ℕ → Bool
wide_enough two count room = cond two (leb (8 * count) room) true

-- those, 8, 18, and 9 with ceiling `top`
abbrev pub buffer_questions : ℕ → Bool → ℕ → List ℕ → Rooms → List Question
buffer_questions top two count mosaic room =
    room_questions count (length mosaic) room.three
    ++ (question 8 (leb (8 * count) room.work) ∷ question 18 (wide_enough two count room.wide) ∷ samples_question top mosaic ∷ [])

-- 1 to 5, and then those
abbrev pub lent_questions : Frame → Settings → Rooms → List Question
lent_questions f s room =
    frame_questions f.width f.height f.layout s ++ buffer_questions (ceiling_of s) (two_levels f.layout) (f.width * f.height) f.samples room
