-- Whole numbers: division that drops the fraction downward, rounding of a quotient, clipping. Assumes nothing.
use Rattle.std.specs.Prelude.{cond, ℕ, ◌/◌, ℤ, pos, negsuc, nat_abs, ◌+ℤ◌}
use Rattle.std.specs.Int.Signed.{lt_z}

-- Document 01: a division marked "whole" drops the fraction downward. z by d, for d ≥ 1: 7 by 2 is 3, −7 by 2 is −4.
unfoldable pub whole_divided : ℤ → ℕ → ℤ
whole_divided (pos a) d = pos (a / d)
whole_divided (negsuc a) d = negsuc (a / d)

-- s divided by d and rounded: s plus half of d, whole-divided by d. A half goes up.
unfoldable pub rounded : ℕ → ℤ → ℤ
rounded d s = whole_divided (s +ℤ pos (d / 2)) d

-- Document 01's clipping: z, or lo where z is below it, or hi where z is above it.
unfoldable pub clamp : ℤ → ℤ → ℤ → ℤ
clamp lo hi z = cond (lt_z z lo) lo (cond (lt_z hi z) hi z)

-- to 0..top, as a sample
abbrev pub clipped : ℕ → ℤ → ℕ
clipped top z = nat_abs (clamp (pos 0) (pos top) z)
