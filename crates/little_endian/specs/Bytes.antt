-- Numbers in bytes, low byte first. Assumes nothing.
use Rattle.std.specs.Prelude.{ℕ, zero, suc, ◌+◌, ◌*◌, ◌/◌, ◌%◌, List, [], ◌∷◌, ◌++◌, length, get_or}
use Rattle.integers.specs.Lists.{tabulate}

-- the n bytes of x
unfoldable pub bytes_of : ℕ → ℕ → List ℕ
bytes_of zero x = []
bytes_of (suc n) x = x % 256 ∷ bytes_of n (x / 256)

-- the number in the n bytes that stand in l from place i on
unfoldable pub number_at : ℕ → List ℕ → ℕ → ℕ
number_at zero l i = 0
number_at (suc n) l i = get_or l i 0 + 256 * number_at n l (i + 1)

-- ---- samples, two bytes each
unfoldable pub sample_bytes : List ℕ → List ℕ
sample_bytes [] = []
sample_bytes (x ∷ xs) = bytes_of 2 x ++ sample_bytes xs

abbrev pub sample_at : List ℕ → ℕ → ℕ
sample_at bytes k = number_at 2 bytes (2 * k)

unfoldable pub samples_in : List ℕ → List ℕ
samples_in bytes = tabulate (length bytes / 2) (sample_at bytes)
