-- The finishing call: what it asks, and what its answer, its planes and its work buffers are then; and the same call with a tally. Assumes
-- nothing.
use Rattle.std.specs.Prelude.{◌≡◌, List}
use Rattle.planes.specs.Layout.{two_levels}
use Rattle.planes.specs.Planes.{Frame}
use Rattle.questions.specs.Settings.{rounds_of}
use Rattle.questions.specs.Questions.{Question, ask}
use Rattle.questions.specs.Refusals.{Answer}
use Rattle.questions.specs.Lent.{Lent, Rooms, rooms_of, lent_questions}
use Rattle.questions.specs.Calls.{Call, Outcome, plain_call}
use Rattle.questions.specs.declared.Settings.{Settings}
use Rattle.tally.specs.Tally.{next_tally}
use Rattle.tally.specs.declared.Tally.{Tally}
use Rattle.work_buffer.specs.Buffer.{zeroed, wide_zeroed}
use Rattle.finishing.specs.Finishing.{finish_lists}

-- ---- the questions, in document 01's order: 1 to 9, with 18 after 8, of a frame, its settings, and the room in planes and work buffers
abbrev pub finish_questions : Frame → Settings → Rooms → List Question
finish_questions = lent_questions

-- ---- without a tally
-- what an accepted call makes of what it is lent
abbrev pub with_finished : Frame → Settings → Lent → Lent
with_finished f s before = record {
  three = finish_lists f s;
  work = zeroed f.width f.height before.work;
  wide = wide_zeroed (two_levels f.layout) f.width f.height before.wide;
}

-- the finishing call, given frame f, settings s, and planes and work buffers that held `before`
abbrev pub finish_call : Frame → Settings → Lent → Call (Unit {0}) Lent
finish_call f s before = plain_call (finish_questions f s (rooms_of before)) (with_finished f s before) before

-- ---- with a tally
-- what the call is given then
pub record FinishGiven : Type 0 where
  pub frame : Frame
  pub settings : Settings
  pub before : Lent
  pub tally : Tally

abbrev pub finish_given : Frame → Settings → Lent → Tally → FinishGiven
finish_given f s before tally = record { frame = f; settings = s; before = before; tally = tally }

-- the same call without it
abbrev pub untallied : FinishGiven → Call (Unit {0}) Lent
untallied g = finish_call g.frame g.settings g.before

-- the tally after the call
abbrev pub next_of : FinishGiven → Tally
next_of g = next_tally (ask (untallied g).questions) (rounds_of g.settings) g.tally

-- the finishing call with a tally: its answer r and the tally that it hands back, accepted or refused, and what planes and work buffers hold after
pub record FinishResult (g : FinishGiven) (r : Answer × Tally) (after : Lent) : Type 0 where
  pub result : Outcome (untallied g) r.0 after
  pub next : r.1 ≡ next_of g
