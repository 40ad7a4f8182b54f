-- What lists hold: at a place, and at places some steps apart. Assumes nothing.
use Rattle.std.specs.Prelude.{List, ℕ, zero, suc, ◌+◌, ◌*◌, ◌<◌, ℤ, pos, get_or, length, set}

-- the number at place k
abbrev pub value : List ℤ → ℕ → ℤ
value l k = get_or l k (pos 0)

-- the sample at a place, as a signed number
unfoldable pub sample : List ℕ → ℕ → ℤ
sample l i = pos (get_or l i 0)

-- l, with f 0, … , f (n − 1) put at places at 0, … , at (n − 1)
unfoldable pub put : {A : Type 0} → List A → ℕ → (ℕ → ℕ) → (ℕ → A) → List A
put l zero at f = l
put l (suc n) at f = set (put l n at f) (at n) (f n)

-- ---- what code asks of lists that it reads
-- n samples from `from` on, `step` apart, lie in the list
pub record InRow (samples : List ℕ) (from n step : ℕ) : Type 0 where
  pub inside : (j : ℕ) → j < n → from + j * step < length samples

-- and so do `rows` rows of `columns` samples, which are not empty: the rows `down` apart, the samples of a row `across`
pub record InPlane (samples : List ℕ) (from columns rows down across : ℕ) : Type 0 where
  pub some : 0 < columns
  pub inside : (i j : ℕ) → i < rows → j < columns → from + i * down + j * across < length samples
