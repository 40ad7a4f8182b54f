-- Document 02, "Spot reading": what a frame's sums make of the spot that was kept, and the frame's reading. Assumes nothing.
use Rattle.std.specs.Prelude.{ℕ, Bool, true, false, cond, ltb, Float}
use Rattle.smoothing.specs.Smoothing.{smooth, float_of}
use Rattle.spot.specs.declared.Colours.{Colours}
use Rattle.spot.specs.declared.Kept.{Kept}
use Rattle.spot.specs.declared.Reading.{Reading}
use Rattle.spot.specs.declared.Reading.TheVariants.{Starting, Dark, Steady}

-- a spot, and a frame's sums
abbrev pub Spot : Type 0
Spot = Colours Float

abbrev pub Sums : Type 0
Sums = Colours ℕ

abbrev pub spot : Float → Float → Float → Spot
spot red green blue = record { red = red; green = green; blue = blue }

-- a frame's own spot: its sums as floats
abbrev pub spot_of : Sums → Spot
spot_of s = spot (float_of s.red) (float_of s.green) (float_of s.blue)

-- old + (new − old) · 0.125, colour by colour
abbrev pub smooth_spot : Spot → Spot → Spot
smooth_spot old new = spot (smooth old.red new.red) (smooth old.green new.green) (smooth old.blue new.blue)

-- a frame is lit when its blue sum is above 0
abbrev pub is_lit : Sums → Bool
is_lit s = ltb 0 s.blue

-- ---- kept between frames: the spot, and whether a lit frame has come
abbrev pub kept : Spot → Bool → Kept
kept s lit = record { spot = s; lit = lit }

-- three zeros at first
abbrev pub start : Kept
start = kept (spot (float_of 0) (float_of 0) (float_of 0)) false

-- the spot after a lit frame: the first one gives its sums, a later one the smoothed spot
abbrev pub lit_spot : Kept → Sums → Spot
lit_spot k s = cond k.lit (smooth_spot k.spot (spot_of s)) (spot_of s)

-- what is kept after a frame: an unlit one changes nothing
unfoldable pub next_kept : Kept → Sums → Kept
next_kept k s = cond (is_lit s) (kept (lit_spot k s) true) k

-- ---- the reading: steady where the frame is lit; else dark after a lit one, and starting before
unfoldable pub reading : Kept → Sums → Reading
reading k s = cond (is_lit s) (Steady (lit_spot k s)) (cond k.lit Dark Starting)
