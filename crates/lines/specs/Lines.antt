-- The filters along lines that stand in lists: n places one after another, or a line padded on both sides with reflected places.
-- Assumes nothing.
use Rattle.std.specs.Prelude.{List, ℕ, ◌+◌, ◌*◌, ◌≤◌, ◌<◌, ℤ, pos, nat_abs, ◌+ℤ◌, ◌-ℤ◌, length}
use Rattle.integers.specs.Lists.{overwrite}
use Rattle.border.specs.Border.{reflect}
use Rattle.planes.specs.Lists.{value}
use Rattle.filters.specs.Bank.{Taps, weighted, low_join, high_join}
use Rattle.lines.specs.declared.Five.{Five}

-- the n places from o on are in the list, and none of their values is farther from 0 than `most`
pub record Run (most : ℕ) (l : List ℤ) (o n : ℕ) : Type 0 where
  pub inside : o + n ≤ length l
  pub small : (k : ℕ) → k < n → nat_abs (value l (o + k)) ≤ most

-- five runs of n places, from five places on
pub record Runs (m : ℕ) (l : List ℤ) (starts : Five) (n : ℕ) : Type 0 where
  pub first : Run m l starts.a n
  pub second : Run m l starts.b n
  pub third : Run m l starts.c n
  pub fourth : Run m l starts.d n
  pub fifth : Run m l starts.e n

-- five places, each so many after the one before it
abbrev pub spaced : ℕ → Five
spaced spacing = record { a = 0; b = spacing; c = 2 * spacing; d = 3 * spacing; e = 4 * spacing }

-- three and five lines of one list, from as many places on, through the taps at place k
unfoldable pub three : Taps → List ℤ → ℕ → ℕ → ℕ → ℕ → ℤ
three t l a b c k = weighted t (pos 0) (value l (a + k)) (value l (b + k)) (value l (c + k)) (pos 0)

unfoldable pub five : Taps → List ℤ → Five → ℕ → ℤ
five t l starts k = weighted t (value l (starts.a + k)) (value l (starts.b + k)) (value l (starts.c + k)) (value l (starts.d + k)) (value l (starts.e + k))

-- five lines of one list through the low join taps, and of another through the high ones
unfoldable pub joined : List ℤ → List ℤ → Five → ℕ → ℤ
joined low high starts k = five low_join low starts k +ℤ five high_join high starts k

-- the place of a padded line's middle that place k of it means: `pad` places stand before a line of n, and `pad` after it
unfoldable pub meant : ℕ → ℕ → ℕ → ℕ
meant n pad k = pad + reflect n (pos k -ℤ pos pad)

-- the line of n from place `pad` on, with its reflected places before it and after it
unfoldable pub padded : ℕ → ℕ → List ℤ → List ℤ
padded n pad l = overwrite l 0 (pad + n + pad) (λ k. value l (meant n pad k))
