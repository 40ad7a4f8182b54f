-- The laws of layouts: red's parities, the layout that has them, and the level that both have. Assumes nothing.
use mathlib.Core.Path.{◌≡◌}
use Prim.Native.Nat.{ℕ, ◌+◌, ◌/◌, ◌<◌}
use native.Mathlib.Omega.{arith}
use lib.Dec.{leb, leb→le}
use borrow.Author.Tests.{le-leb}
use Rattle.integers.proofs.Tests.{same_test, true_is}
use Rattle.planes.specs.Layout.{red_row, red_column, two_levels, with_parities}

pub row_lt : (l : ℕ) → red_row l < 2
unfolding red_row
row_lt l = omega arith

pub column_lt : (l : ℕ) → red_column l < 2
unfolding red_column
column_lt l = omega arith

pub row_with : (l r c : ℕ) → r < 2 → c < 2 → red_row (with_parities l r c) ≡ r
unfolding with_parities red_row
row_with l r c hr hc = omega arith

pub column_with : (l r c : ℕ) → r < 2 → c < 2 → red_column (with_parities l r c) ≡ c
unfolding with_parities red_column
column_with l r c hr hc = omega arith

pub parities_again : (l a b r c : ℕ) → a < 2 → b < 2 → with_parities (with_parities l a b) r c ≡ with_parities l r c
unfolding with_parities
parities_again l a b r c ha hb = omega arith

pub own_parities : (l : ℕ) → with_parities l (red_row l) (red_column l) ≡ l
unfolding with_parities red_row red_column
own_parities l = omega arith

-- ---- the level
-- red's parities are those of the layout less 4
pub row_less : (l : ℕ) → red_row (4 + l) ≡ red_row l
unfolding red_row
row_less l = omega arith

pub column_less : (l : ℕ) → red_column (4 + l) ≡ red_column l
unfolding red_column
column_less l = omega arith

-- the level is what a layout has above them
pub same_level : (l m : ℕ) → l / 4 ≡ m / 4 → two_levels l ≡ two_levels m
unfolding two_levels
same_level l m e =
    same_test (leb 4 l) (leb 4 m)
    (λ t. let k = leb→le 4 l t in true_is (le-leb 4 m (omega (arith, e, k))))
    (λ t. let k = leb→le 4 m t in true_is (le-leb 4 l (omega (arith, e, k))))

-- so a layout with other parities has the same
pub level_with : (l r c : ℕ) → r < 2 → c < 2 → two_levels (with_parities l r c) ≡ two_levels l
unfolding with_parities
level_with l r c hr hc = same_level _ _ (omega arith)
