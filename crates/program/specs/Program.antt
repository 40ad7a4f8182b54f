-- Document 01's program: it reads a packet from standard input and prints width and height, then the rows of red, green and blue; or
-- `refused`, a space and the number. Here is what it asks of its input's bytes, and what it prints. Assumes nothing.
use Rattle.std.specs.Prelude.{ℕ, ◌+◌, ◌*◌, ◌≤◌, ◌≡◌, Result, List, [], ◌∷◌, ◌++◌, leb, length}
use Rattle.planes.specs.Planes.{Frame}
use Rattle.questions.specs.Settings.{framed}
use Rattle.questions.specs.Questions.{Question, question, ask}
use Rattle.questions.specs.Lent.{Lent}
use Rattle.questions.specs.declared.Refusal.{Refusal}
use Rattle.questions.specs.Calls.{Answered, if_accepted}
use Rattle.packet.specs.Packet.{fields_of, samples_of}
use Rattle.packet.specs.Calls.{read_questions}
use Rattle.packet.specs.declared.Fields.{Fields}
use Rattle.finishing.specs.Finishing.{finish_lists}
use Rattle.printing.specs.Text.{frame_text, refusal}

-- ---- the questions, in document 01's order
-- 17 at most 1,024 samples
abbrev pub count_question : Fields → Question
count_question f = question 17 (leb (f.shape.width * f.shape.height) 1024)

-- 17 input at most 4,096 bytes (first), the reader's, and 17 of the samples (after the reader)
abbrev pub program_questions : List ℕ → List Question
program_questions input = question 17 (leb (length input) 4096) ∷ read_questions input ++ (count_question (fields_of input) ∷ [])

-- ---- what is printed
-- the frame of a packet's fields and samples
abbrev pub packet_frame : Fields → List ℕ → Frame
packet_frame f samples = framed f.shape samples

-- its finished planes
unfoldable pub finished_text : Fields → List ℕ → List ℕ
finished_text f samples = frame_text f.shape.width f.shape.height (finish_lists (packet_frame f samples) f.settings)

-- the program's text, given its input
unfoldable pub program_text : List ℕ → List ℕ
program_text input =
    if_accepted (program_questions input) (finished_text (fields_of input) (samples_of input)) (refusal (ask (program_questions input)))

-- ---- what is promised and asked inside
-- reading the input: its fields, or why it is refused
abbrev pub InputResult : List ℕ → Result Fields Refusal → Type 0
InputResult input r = Answered (program_questions input) (fields_of input) r

-- buffers for a frame of `count` samples, and room for its text
pub record Buffers (count : ℕ) (mosaic : List ℕ) (before : Lent) (out : List ℕ) : Type 0 where
  pub mosaic_room : length mosaic ≡ count
  pub red_room : length before.three.red ≡ count
  pub green_room : length before.three.green ≡ count
  pub blue_room : length before.three.blue ≡ count
  pub work_room : 8 * count ≤ length before.work
  pub wide_room : 8 * count ≤ length before.wide
  pub text_room : 12 + 18 * count ≤ length out
