-- The laws of a step of a stage: it lays down its row, or nothing. Assumes nothing.
use mathlib.Core.Path.{◌≡◌, sym, ◌∙◌, ap}
use mathlib.Core.List.{List}
use Prim.Native.Nat.{ℕ, ◌+◌, ◌*◌, ◌-◌, ◌≤◌, ◌<◌, min}
use native.Mathlib.Nat.{one-mul, zero-mul}
use native.Mathlib.Omega.{arith}
use lib.IntN.{ℤ}
use Rattle.integers.specs.Lists.{overwrite}
use Rattle.integers.proofs.Lists.{overwrite_none}
use Rattle.rings.specs.declared.Given.{Given}
use Rattle.rings.specs.Rows.{slot}
use Rattle.rings.specs.Stages.{reached, Working, row_laid, ring_row_laid}

-- ---- which row a stage makes at step t
pub at_row : (lag h t : ℕ) → Working lag h t → (t ≡ lag + reached lag h t) × (reached lag h t < h)
at_row lag h t i = (omega arith, omega arith)

pub reached_next : (lag h t : ℕ) → (reached lag h t ≤ reached lag h (t + 1)) × (reached lag h (t + 1) ≤ reached lag h t + 1)
reached_next lag h t = (omega arith, omega arith)

-- A stage that lags less, by k or more, has made the rows as far as k after row r; and a ring of n slots still holds those as far as k before it,
-- where it has slots enough.
pub made_to : (lag lag' k h t r : ℕ) → t ≡ lag + r → lag' + k ≤ lag → min (r + k + 1) h ≤ reached lag' h (t + 1)
made_to lag lag' k h t r e a = omega arith

pub held_from : (lag lag' n k h t r : ℕ) → t ≡ lag + r → lag + 1 + k ≤ lag' + n → reached lag' h (t + 1) - n ≤ r - k
held_from lag lag' n k h t r e a = omega arith

-- ---- one row, or none
module _ (lag : ℕ) (g : Given) (t : ℕ) where
  pub one_row : Working lag g.height t → (l : List ℤ) (o : ℕ) (f : ℕ → ℤ) → row_laid lag g t l o f ≡ overwrite l o g.width f
  unfolding row_laid
  one_row i l o f = ap (λ (k : ℕ). overwrite l o k f) (ap (λ (k : ℕ). k * g.width) one ∙ one-mul g.width)
    where
      one : reached lag g.height (t + 1) - reached lag g.height t ≡ 1
      one = omega arith

  pub no_row : (Working lag g.height t → ⊥) → (l : List ℤ) (o : ℕ) (f : ℕ → ℤ) → row_laid lag g t l o f ≡ l
  unfolding row_laid
  no_row i l o f = ap (λ (k : ℕ). overwrite l o k f) (ap (λ (k : ℕ). k * g.width) none ∙ zero-mul g.width) ∙ sym (overwrite_none l o f)
    where
      none : reached lag g.height (t + 1) - reached lag g.height t ≡ 0
      none = let j : reached lag g.height (t + 1) ≤ reached lag g.height t = omega (arith, i) in omega arith

  -- a stage works where fewer rows are made before the step than after it
  pub working : {r next : ℕ} → r ≡ reached lag g.height t → next ≡ reached lag g.height (t + 1) → r < next → Working lag g.height t
  working is_r is_next i = omega arith

  -- as code goes: the row that is made, at a place that is a function of its number
  module _ {r : ℕ} (made : (r ≡ reached lag g.height t) × Working lag g.height t) where
    pub row_worked : (l : List ℤ) (o : ℕ → ℕ) (rows : ℕ → ℕ → ℤ) {l' : List ℤ} → l' ≡ overwrite l (o r) g.width (rows r) → l' ≡ row_laid lag g t l (o (reached lag g.height t)) (rows (reached lag g.height t))
    row_worked l o rows q = q ∙ (λ j. overwrite l (o (made.0 j)) g.width (rows (made.0 j))) ∙ sym (one_row made.1 l (o (reached lag g.height t)) (rows (reached lag g.height t)))

    pub ring_worked : (n : ℕ) (l : List ℤ) (rows : ℕ → ℕ → ℤ) {l' : List ℤ} → l' ≡ overwrite l (slot n g.width r) g.width (rows r) → l' ≡ ring_row_laid n lag g t l rows
    unfolding ring_row_laid
    ring_worked n l rows q = row_worked l (slot n g.width) rows q

  -- or none
  pub row_idle : (Working lag g.height t → ⊥) → (l : List ℤ) (o : ℕ) (f : ℕ → ℤ) → l ≡ row_laid lag g t l o f
  row_idle none l o f = sym (no_row none l o f)

  pub ring_idle : (n : ℕ) → (Working lag g.height t → ⊥) → (l : List ℤ) (rows : ℕ → ℕ → ℤ) → l ≡ ring_row_laid n lag g t l rows
  unfolding ring_row_laid
  ring_idle n none l rows = row_idle none l (slot n g.width (reached lag g.height t)) (rows (reached lag g.height t))
