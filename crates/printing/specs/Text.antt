-- Document 01's program prints width and height, then the rows of red, green and blue, samples parted by a space; or `refused`, a
-- space and the number. Every line ends with a newline. Here is that text, as bytes. Assumes nothing.
use Rattle.std.specs.Prelude.{ℕ, zero, suc, ◌+◌, ◌/◌, ◌%◌, ◌≤◌, ◌≡◌, cond, List, [], ◌∷◌, ◌++◌, ltb, eqb, length}
use Rattle.std.proofs.lemmas.List.Edits.{sets}
use Rattle.planes.specs.Planes.{Planes}

abbrev pub newline : ℕ
newline = 10

abbrev pub space : ℕ
space = 32

-- ---- numbers
-- the last k decimal digits of n, leading zeros kept
unfoldable pub digits : ℕ → ℕ → List ℕ
digits zero n = []
digits (suc k) n = digits k (n / 10) ++ ((48 + n % 10) ∷ [])

-- how many digits a number below 100,000 has
unfoldable pub digit_count : ℕ → ℕ
digit_count n = cond (ltb n 10) 1 (cond (ltb n 100) 2 (cond (ltb n 1000) 3 (cond (ltb n 10000) 4 5)))

-- such a number, without leading zeros
unfoldable pub decimal : ℕ → List ℕ
decimal n = digits (digit_count n) n

-- ---- planes
-- what follows the n-th number of a plane: a newline where a row of w ends, else a space
abbrev pub separator : ℕ → ℕ → ℕ
separator w n = cond (eqb (n % w) 0) newline space

-- the numbers of a plane after its first k, in rows of w
unfoldable pub rows_after : ℕ → ℕ → List ℕ → List ℕ
rows_after w k [] = []
rows_after w k (x ∷ xs) = decimal x ++ (separator w (suc k) ∷ rows_after w (suc k) xs)

abbrev pub rows : ℕ → List ℕ → List ℕ
rows w samples = rows_after w 0 samples

-- ---- what is printed
-- width and height, then the rows of red, green and blue
unfoldable pub frame_text : ℕ → ℕ → Planes (List ℕ) → List ℕ
frame_text width height p =
    decimal width ++ (space ∷ decimal height ++ (newline ∷ rows width p.red ++ (rows width p.green ++ rows width p.blue)))

-- `refused`
abbrev pub refused : List ℕ
refused = 114 ∷ 101 ∷ 102 ∷ 117 ∷ 115 ∷ 101 ∷ 100 ∷ []

unfoldable pub refusal : ℕ → List ℕ
refusal number = refused ++ (space ∷ decimal number ++ (newline ∷ []))

-- ---- what is promised of a buffer that held `before` and then holds `after`
-- `text` from place `at` on, and all else as it was; `end` is the place after the text
pub record Put (at : ℕ) (text before : List ℕ) (end : ℕ) (after : List ℕ) : Type 0 where
  pub buffer : after ≡ sets before at text
  pub place : end ≡ at + length text

-- the same at the front of a buffer that is long enough; `count` is the number of the text's bytes
pub record Written (text before : List ℕ) (count : ℕ) (after : List ℕ) : Type 0 where
  pub buffer : after ≡ sets before 0 text
  pub bytes : count ≡ length text
  pub fit : count ≤ length before
