-- Document 01, "Frame, layout, border": which colour sits where. Counting starts at 0. Assumes nothing.
use Rattle.std.specs.Prelude.{Bool, true, false, ℕ, ◌+◌, ◌*◌, ◌/◌, ◌%◌, eqb, leb}

-- Red sits on even rows and even columns in layout 0, even rows and odd columns in 1, odd rows and even columns in 2, odd and
-- odd in 3; in 4 to 7 as in that layout less 4: the parity of its rows, and of its columns.
unfoldable pub red_row : ℕ → ℕ
red_row layout = layout / 2 % 2

unfoldable pub red_column : ℕ → ℕ
red_column layout = layout % 2

-- Document 02: "a layout byte of 4 to 7 means that layout less 4, with two levels" of the bank.
unfoldable pub two_levels : ℕ → Bool
two_levels layout = leb 4 layout

-- whether a row, or a column, has red's parity
unfoldable pub on_red_row : ℕ → ℕ → Bool
on_red_row layout r = eqb (r % 2) (red_row layout)

unfoldable pub on_red_column : ℕ → ℕ → Bool
on_red_column layout c = eqb (c % 2) (red_column layout)

pub data Colour : Type 0 where
  red green blue : Colour

-- Blue has the other parity in row and in column. All else is green.
unfoldable pub by_parity : Bool → Bool → Colour
by_parity true true = red
by_parity true false = green
by_parity false true = green
by_parity false false = blue

unfoldable pub colour : ℕ → ℕ → ℕ → Colour
colour layout r c = by_parity (on_red_row layout r) (on_red_column layout c)

-- The layout with these parities of red's rows and columns, and the 4 kept. (Of a larger number all that is above 3 is, so that the laws ask
-- no bound.)
unfoldable pub with_parities : ℕ → ℕ → ℕ → ℕ
with_parities layout row column = 4 * (layout / 4) + (2 * row + column)
