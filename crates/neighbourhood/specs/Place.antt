-- Document 01, "First estimates", at one place: its 5 by 5 neighbourhood, reflected, which both estimates read; green by Hamilton and
-- Adams, red and blue bilinear. Assumes nothing.
use Rattle.std.specs.Prelude.{Bool, true, false, cond, List, [], ℕ, ◌+◌, ltb, ℤ, pos, negsuc, nat_abs, ◌+ℤ◌, ◌-ℤ◌, ◌*ℤ◌, get_or}
use Rattle.integers.specs.Numbers.{rounded, clipped}
use Rattle.integers.specs.Lists.{tabulate}
use Rattle.border.specs.Border.{reflect}
use Rattle.planes.specs.Layout.{Colour, red, green, blue}
use Rattle.turns.specs.Operations.{Around}

-- ---- the neighbourhood
-- five rows of five: row i, column j holds what stands i − 2 rows and j − 2 columns from the place, reflected
unfoldable pub neighbourhood : ℕ → ℕ → (ℕ → ℕ → ℕ) → ℕ → ℕ → List (List ℕ)
neighbourhood w h plane r c =
    tabulate 5 (λ i. tabulate 5 (λ j. plane (reflect h (pos r +ℤ (pos i -ℤ pos 2))) (reflect w (pos c +ℤ (pos j -ℤ pos 2)))))

-- what five rows of five hold, by the distance from their middle
unfoldable pub around : List (List ℕ) → Around ℕ
around rows i j = get_or (get_or rows (nat_abs (i +ℤ pos 2)) []) (nat_abs (j +ℤ pos 2)) 0

-- ---- green at a red or blue place, of value C
-- a line through the place: its row, or its column
abbrev pub row_of : Around ℕ → ℤ → ℤ
row_of n j = pos (n (pos 0) j)

abbrev pub column_of : Around ℕ → ℤ → ℤ
column_of n i = pos (n i (pos 0))

-- left and right, the green neighbours
unfoldable pub greens : (ℤ → ℤ) → ℤ
greens line = line (negsuc 0) +ℤ line (pos 1)

-- the two values two away
unfoldable pub two_away : (ℤ → ℤ) → ℤ
two_away line = line (negsuc 1) +ℤ line (pos 2)

-- H = |left − right| + |2C − the two values two columns away|; V the same by rows
unfoldable pub gradient : (ℤ → ℤ) → ℕ
gradient line = nat_abs (line (negsuc 0) -ℤ line (pos 1)) + nat_abs (pos 2 *ℤ line (pos 0) -ℤ two_away line)

-- 4·(left + right) + 2·(2C − those two)
unfoldable pub along_line : (ℤ → ℤ) → ℤ
along_line line = pos 4 *ℤ greens line +ℤ pos 2 *ℤ (pos 2 *ℤ line (pos 0) -ℤ two_away line)

-- 2·(four greens) + 4C − the four values two away
unfoldable pub along_both : (ℤ → ℤ) → (ℤ → ℤ) → ℤ
along_both row column = pos 2 *ℤ (greens row +ℤ greens column) +ℤ pos 4 *ℤ row (pos 0) -ℤ (two_away row +ℤ two_away column)

-- by the smaller of H and V, or by both if they are equal: eight times the green
unfoldable pub eight_greens : (ℤ → ℤ) → (ℤ → ℤ) → ℤ
eight_greens row column =
    cond (ltb (gradient row) (gradient column)) (along_line row) (cond (ltb (gradient column) (gradient row)) (along_line column) (along_both row column))

-- add 4, whole-divide by 8, clip
unfoldable pub hamilton_adams : ℕ → Around ℕ → ℕ
hamilton_adams top n = clipped top (rounded 8 (eight_greens (row_of n) (column_of n)))

-- the observed sample is kept
unfoldable pub green_at : ℕ → Colour → Around ℕ → ℕ
green_at top red n = hamilton_adams top n
green_at top green n = n (pos 0) (pos 0)
green_at top blue n = hamilton_adams top n

-- ---- red and blue: (a + b + 1)/2 whole from two neighbours, (sum + 2)/4 whole from four diagonals
unfoldable pub of_two : ℕ → ℕ → ℕ
of_two a b = nat_abs (rounded 2 (pos (a + b)))

unfoldable pub of_four : ℕ → ℕ → ℕ → ℕ → ℕ
of_four a b c d = nat_abs (rounded 4 (pos (a + b + c + d)))

-- by whether the place's row, and its column, have the parity of the colour's places; the observed sample is kept
unfoldable pub bilinear : Bool → Bool → Around ℕ → ℕ
bilinear true true n = n (pos 0) (pos 0)
bilinear true false n = of_two (n (pos 0) (negsuc 0)) (n (pos 0) (pos 1))
bilinear false true n = of_two (n (negsuc 0) (pos 0)) (n (pos 1) (pos 0))
bilinear false false n = of_four (n (negsuc 0) (negsuc 0)) (n (negsuc 0) (pos 1)) (n (pos 1) (negsuc 0)) (n (pos 1) (pos 1))
