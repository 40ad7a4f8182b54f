-- Document 02, "Spot reading": how one colour of a spot is smoothed. The operations are the machine's, each rounded once, for any floats. Assumes
-- nothing.
use Rattle.std.specs.Prelude.{false, ℕ, pos, negsuc, Float}
use Rattle.std.specs.Float.{fin, binary64}
use Rattle.std.specs.Float.Ieee.{add, sub, mul, of_int}

-- 0.125: 1 · 2⁻³
abbrev pub eighth : Float
eighth = fin false 1 (negsuc 2)

-- old + (new − old) · 0.125
unfoldable pub smooth : Float → Float → Float
smooth old new = add binary64 old (mul binary64 (sub binary64 new old) eighth)

-- a sum as a float: the nearest one, which is the sum itself up to 2⁵³
abbrev pub float_of : ℕ → Float
float_of n = of_int binary64 (pos n)
