-- `filters::clipped` meets its contract: two tests.
use mathlib.Core.Path.{◌≡◌, sym, ◌∙◌}
use lib.IntN.{ℤ}
use mir.Syntax.{w32}
use mir.Val.{to_z, of_z}
use mir.Facts.{to_z-of_z as back}
use Rattle.integers.specs.Numbers.{clamp}
use Rattle.integers.proofs.Clamping.{clamp_low, clamp_high, clamp_mid}
use Rattle.filters.proofs.clipped.Goals as goal
use Rattle.filters.proofs.clipped.Goals.{Start}

-- a number as the machine reads it
abbrev read : ℤ → ℤ
read z = to_z w32 (of_z w32 z)

-- what clipping gives of the numbers that are read, comes back
from : (s : goal.Start) (x : ℤ) → clamp (read s.args.least) (read s.args.most) (read s.args.z) ≡ x → x ≡ clamp s.args.least s.args.most s.args.z
from s x e = sym e ∙ (λ i. clamp (back s.ranges.least i) (back s.ranges.most i) (back s.ranges.z i))

pub returns-then-z-least : goal.returns-then-z-least
returns-then-z-least c = from (goal.at.returns-then-z-least c).Start _ (clamp_low (read c.args.least) (read c.args.most) (read c.args.z) c.if-z-least.true)

pub returns-then-most-z : goal.returns-then-most-z
returns-then-most-z c = from (goal.at.returns-then-most-z c).Start _ (clamp_high (read c.args.least) (read c.args.most) (read c.args.z) c.if-z-least.false c.if-most-z.true)

pub returns : goal.returns
returns c = from (goal.at.returns c).Start _ (clamp_mid (read c.args.least) (read c.args.most) (read c.args.z) c.if-z-least.false c.if-most-z.false)
