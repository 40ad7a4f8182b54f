-- Document 01, "Border": an index outside 0..n−1 is reflected about 0 and about n−1, without repeating the edge, until it
-- lies inside; for n = 1 every index means 0. Assumes nothing.
use Rattle.std.specs.Prelude.{true, false, ℕ, zero, suc, ◌+◌, ◌*◌, ◌-◌, ltb, ℤ, pos, negsuc, nat_abs, ◌-ℤ◌}

-- About 0, −m becomes m. About n − 1, m becomes 2·(n − 1) − m. The first argument bounds the number of steps.
unfoldable pub until_inside : ℕ → ℕ → ℤ → ℕ
until_inside zero n i = 0
until_inside (suc steps) n (negsuc m) = until_inside steps n (pos (suc m))
until_inside (suc steps) n (pos m) = elim (ltb m n) [ true ↦ m | false ↦ until_inside steps n (pos (2 * (n - 1)) -ℤ pos m) ]

-- The place that index i of a line of n means. Two steps bring an index at least 2 nearer, so |i| + 2 are enough. (A line of
-- none has no place, and no call asks for one.)
unfoldable pub reflect : ℕ → ℤ → ℕ
reflect zero i = 0
reflect (suc zero) i = 0
reflect (suc (suc n)) i = until_inside (nat_abs i + 2) (suc (suc n)) i
