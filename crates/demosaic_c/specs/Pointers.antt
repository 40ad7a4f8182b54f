-- C's calls that put what they answer into single numbers, lent by pointer. Assumes nothing.
use Rattle.std.specs.Prelude.{cond, List, ℕ, ltb, Float}
use Rattle.planes.specs.Planes.{Frame, Planes}
use Rattle.questions.specs.Calls.{Call, plain_call}
use Rattle.questions.specs.declared.Settings.{Settings}
use Rattle.spot.specs.Spot.{Spot, spot, kept, reading}
use Rattle.spot.specs.Calls.{SpotGiven, spot_given, spot_call, sums_of}
use Rattle.spot.specs.declared.Reading.{Reading}
use Rattle.spot.specs.declared.Reading.TheVariants as spot_reading
use Rattle.packet.specs.Packet.{distance, fields_of, repeats}
use Rattle.packet.specs.Calls.{read_questions, repeat_questions, write_call}
use Rattle.packet.specs.declared.Fields.{Fields}
use Rattle.turns.specs.Pictures.{Picture, then_another}
use Rattle.turns.specs.Frames.{turn_frame}
use Rattle.turns.specs.Turning.{then_questions, shape_turn_questions, shape_turned, turn_call}

-- ---- packets
abbrev pub fields : ℕ → ℕ → ℕ → Settings → Fields
fields width height layout s = record { shape = record { width = width; height = height; layout = layout }; settings = s }

-- the five numbers of a packet's frame, which held `before`
abbrev pub fields_call : List ℕ → Fields → Call (Unit {0}) Fields
fields_call store before = plain_call (read_questions store) (fields_of store) before

-- the writer, into buffer `out`; and how many bytes, into a number that held `before`
abbrev pub length_call : Fields → List ℕ → List ℕ → ℕ → Call (Unit {0}) (List ℕ × ℕ)
length_call f samples out before = let c = write_call f samples out in plain_call c.questions (c.new, distance f) (out, before)

-- whether packet a repeats packet b, 1 or 0
abbrev pub repeat_call : List ℕ → List ℕ → ℕ → Call (Unit {0}) ℕ
repeat_call a b before = plain_call (repeat_questions a b) (cond (repeats a b) 1 0) before

-- ---- turns
-- a turn and then another, as a single one
abbrev pub single_call : ℕ → ℕ → ℕ → Call (Unit {0}) ℕ
single_call turn next before = plain_call (then_questions turn next) (then_another turn next) before

-- a width, a height and a layout, with nothing at the places
abbrev pub shape : ℕ → ℕ → ℕ → Picture Unit
shape width height layout = record { width = width; height = height; layout = layout; at = λ r c. tt }

abbrev pub shape_of : Frame → Picture Unit
shape_of f = shape f.width f.height f.layout

-- the turned width, height and layout, into three numbers that held `before`
abbrev pub shape_call : ℕ → ℕ → ℕ → ℕ → Picture Unit → Call (Unit {0}) (Picture Unit)
shape_call turn width height layout before = plain_call (shape_turn_questions turn width height layout) (shape_turned turn width height layout) before

-- the turning call, into buffer `out`; and the turned shape
abbrev pub turned_call : ℕ → Frame → List ℕ → Picture Unit → Call (Unit {0}) (List ℕ × Picture Unit)
turned_call turn f out before = let c = turn_call turn f out in plain_call c.questions (c.new, shape_of (turn_frame turn f)) (out, before)

-- ---- the spot
-- what C keeps between frames, the spot and whether a lit frame has come, 0 or not; and a frame's reading
pub record SpotNumbers : Type 0 where
  pub spot : Spot
  pub lit : ℕ
  pub reading : ℕ

abbrev pub spot_numbers : Float → Float → Float → ℕ → ℕ → SpotNumbers
spot_numbers red green blue lit reading = record { spot = spot red green blue; lit = lit; reading = reading }

-- 0 starting, 1 dark, 2 steady
abbrev pub number_of_reading : Reading → ℕ
number_of_reading spot_reading.Starting = 0
number_of_reading spot_reading.Dark = 1
number_of_reading (spot_reading.Steady s) = 2

-- what the call of crate `spot` is given, where C's numbers held `before`
abbrev pub kept_given : ℕ → ℕ → Planes (List ℕ) → ℕ → ℕ → SpotNumbers → SpotGiven
kept_given width height three row column before = spot_given width height three row column (kept before.spot (ltb 0 before.lit))

-- that call; what is kept, and the reading, into those numbers
abbrev pub reading_call : ℕ → ℕ → Planes (List ℕ) → ℕ → ℕ → SpotNumbers → Call (Unit {0}) SpotNumbers
reading_call width height three row column before =
    let g = kept_given width height three row column before in
    let c = spot_call g in
    plain_call c.questions (record { spot = c.new.spot; lit = cond c.new.lit 1 0; reading = number_of_reading (reading g.kept (sums_of g)) }) before
