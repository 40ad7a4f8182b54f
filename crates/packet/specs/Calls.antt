-- The calls on packets: what each asks, and what its answer and its buffer are then. Assumes nothing.
use Rattle.std.specs.Prelude.{ℕ, ◌*◌, Bool, Result, List, [], ◌∷◌, ◌++◌, leb, eqb, length, drop}
use Rattle.questions.specs.Settings.{ceiling_of}
use Rattle.questions.specs.Questions.{Question, question, frame_questions, samples_question}
use Rattle.questions.specs.declared.Refusal.{Refusal}
use Rattle.questions.specs.Calls.{Answered, if_accepted, Call}
use Rattle.packet.specs.Packet.{distance, packet, fields_of, distance_in, sample_part, samples_of, repeats}
use Rattle.packet.specs.declared.Fields.{Fields}

-- ---- the questions, in document 01's order
-- 1, 2, 3, 4, 5
abbrev pub fields_questions : Fields → List Question
fields_questions f = frame_questions f.shape.width f.shape.height f.shape.layout f.settings

-- 12 distance equal to 2·w·h + 12, 13 distance within the store, which has `held` bytes
abbrev pub distance_questions : ℕ → Fields → ℕ → List Question
distance_questions back f held = question 12 (eqb back (distance f)) ∷ question 13 (leb back held) ∷ []

-- 11, 1, 2, 3, 4, 5, 12, 13: all that is asked of a store before a sample is looked at
abbrev pub store_questions : List ℕ → List Question
store_questions store =
    question 11 (leb 12 (length store)) ∷ fields_questions (fields_of store) ++ distance_questions (distance_in store) (fields_of store) (length store)

-- 9 every sample at most the ceiling that the fields give
abbrev pub ceiling_question : Fields → List ℕ → Question
ceiling_question f samples = samples_question (ceiling_of f.settings) samples

-- the reader: 11, 1, 2, 3, 4, 5, 12, 13, 9
abbrev pub read_questions : List ℕ → List Question
read_questions store = store_questions store ++ (ceiling_question (fields_of store) (samples_of store) ∷ [])

-- 7 mosaic to fill, of `room`, exactly w·h, 9
abbrev pub filling_questions : Fields → List ℕ → ℕ → List Question
filling_questions f samples room = question 7 (eqb room (f.shape.width * f.shape.height)) ∷ ceiling_question f samples ∷ []

-- reading into a mosaic of `room`: 11, 1, 2, 3, 4, 5, 12, 13, 7, 9
abbrev pub mosaic_questions : List ℕ → ℕ → List Question
mosaic_questions store room = store_questions store ++ filling_questions (fields_of store) (samples_of store) room

-- 6 given samples exactly w·h, 9, 14 buffer of `room` long enough
abbrev pub writing_questions : Fields → List ℕ → ℕ → List Question
writing_questions f samples room =
    question 6 (eqb (length samples) (f.shape.width * f.shape.height)) ∷ ceiling_question f samples ∷ question 14 (leb (distance f) room) ∷ []

-- the writer, into a buffer of `room`: 1, 2, 3, 4, 5, 6, 9, 14
abbrev pub write_questions : Fields → List ℕ → ℕ → List Question
write_questions f samples room = fields_questions f ++ writing_questions f samples room

-- the repeat call: all of the first store, then of the second
abbrev pub repeat_questions : List ℕ → List ℕ → List Question
repeat_questions a b = read_questions a ++ read_questions b

-- ---- what is promised
-- the reader's fields
abbrev pub ReadResult : List ℕ → Result Fields Refusal → Type 0
ReadResult store r = Answered (read_questions store) (fields_of store) r

-- the reader's part of the store: the empty part where it is refused
abbrev pub part_read : List ℕ → List ℕ
part_read store = if_accepted (read_questions store) (sample_part store) []

-- reading into a mosaic that held `before`: it holds the samples then
abbrev pub mosaic_call : List ℕ → List ℕ → Call Fields (List ℕ)
mosaic_call store before = record {
  questions = mosaic_questions store (length before);
  answer = fields_of store;
  new = samples_of store;
  old = before;
}

-- the writer, given a buffer that held `before`: its first bytes are the packet then
abbrev pub write_call : Fields → List ℕ → List ℕ → Call ℕ (List ℕ)
write_call f samples before = record {
  questions = write_questions f samples (length before);
  answer = distance f;
  new = packet f samples ++ drop (distance f) before;
  old = before;
}

-- the repeat call
abbrev pub RepeatResult : List ℕ → List ℕ → Result Bool Refusal → Type 0
RepeatResult a b r = Answered (repeat_questions a b) (repeats a b) r
