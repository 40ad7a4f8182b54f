-- Numbers taken apart by 1,024, and a sum of two levels brought back. Assumes nothing.
use Rattle.std.specs.Prelude.{ℤ, pos, ◌-ℤ◌, ◌*ℤ◌}
use Rattle.integers.specs.Numbers.{whole_divided}
use Rattle.filters.specs.Bank.{rescaled}

-- z = 1,024 · whole z + rest z, with rest z in 0..1,023
unfoldable pub whole : ℤ → ℤ
whole z = whole_divided z 1024

unfoldable pub rest : ℤ → ℤ
rest z = z -ℤ pos 1024 *ℤ whole z

-- 2^20 times x, less 1,024 times a joined sum, less what that leaves: brought back
unfoldable pub settled_two : ℤ → ℤ → ℤ → ℤ → ℤ → ℤ
settled_two least most x sum small = rescaled 1048576 least most (pos 1024 *ℤ (pos 1024 *ℤ x -ℤ sum) -ℤ small)
