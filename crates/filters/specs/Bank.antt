-- Document 01, "Filter bank", on planes. A plane gives the value at a row and a column; its width and height stand beside it.
-- Assumes nothing.
use Rattle.std.specs.Prelude.{ℕ, ◌*◌, ◌≤◌, T, ℤ, pos, negsuc, nat_abs, ◌+ℤ◌, ◌-ℤ◌, ◌*ℤ◌}
use Rattle.std.specs.Int.Signed.{non_neg}
use Rattle.integers.specs.Numbers.{rounded, clamp, clipped}
use Rattle.border.specs.Border.{reflect}

-- ---- taps
-- A filter's taps, in scaled whole numbers. Each filter is centred and symmetric: the centre's tap, that of the two places next to
-- it, and that of the two places after those.
pub record Taps : Type 0 where
  pub centre : ℤ
  pub near : ℤ
  pub far : ℤ

-- 1 2 1
unfoldable pub low_split : Taps
low_split = record { centre = pos 2; near = pos 1; far = pos 0 }

-- 1 −2 1
unfoldable pub high_split : Taps
high_split = record { centre = negsuc 1; near = pos 1; far = pos 0 }

-- −1 2 6 2 −1
unfoldable pub low_join : Taps
low_join = record { centre = pos 6; near = pos 2; far = negsuc 0 }

-- 1 2 −6 2 1
unfoldable pub high_join : Taps
high_join = record { centre = negsuc 5; near = pos 2; far = pos 1 }

-- the sum of five values, each times its tap
unfoldable pub weighted : Taps → ℤ → ℤ → ℤ → ℤ → ℤ → ℤ
weighted t a b c d e = t.centre *ℤ c +ℤ t.near *ℤ (b +ℤ d) +ℤ t.far *ℤ (a +ℤ e)

-- the filter at place i of an endless line, its taps d places apart
unfoldable pub tap : Taps → ℕ → (ℤ → ℤ) → ℤ → ℤ
tap t d line i = weighted t (line (i -ℤ pos (2 * d))) (line (i -ℤ pos d)) (line i) (line (i +ℤ pos d)) (line (i +ℤ pos (2 * d)))

-- at place i of a line of n, reflected at its border
unfoldable pub along : Taps → ℕ → ℕ → (ℕ → ℤ) → ℕ → ℤ
along t d n line i = tap t d (λ j. line (reflect n j)) (pos i)

-- ---- along the rows and the columns of a plane
unfoldable pub along_rows : Taps → ℕ → ℕ → (ℕ → ℕ → ℤ) → ℕ → ℕ → ℤ
along_rows t d w plane r c = along t d w (plane r) c

unfoldable pub along_columns : Taps → ℕ → ℕ → (ℕ → ℕ → ℤ) → ℕ → ℕ → ℤ
along_columns t d h plane r c = along t d h (λ i. plane i c) r

-- the one filter along the rows, the other along the columns; nothing is rounded between
unfoldable pub filtered : Taps → Taps → ℕ → ℕ → ℕ → (ℕ → ℕ → ℤ) → ℕ → ℕ → ℤ
filtered on_rows on_columns d w h plane = along_columns on_columns d h (along_rows on_rows d w plane)

-- ---- split and join, with taps d places apart; document 01's are next to each other
-- one of a kind for each of the four bands: the four values at a place, or four lists
pub record Bands (A : Type 0) : Type 0 where
  pub band1 : A
  pub band2 : A
  pub band3 : A
  pub band4 : A

-- Band 1 is low along rows and columns, band 2 high along rows and low along columns, band 3 the reverse, band 4 high along both.
unfoldable pub split : ℕ → ℕ → ℕ → (ℕ → ℕ → ℤ) → ℕ → ℕ → Bands ℤ
split d w h plane r c = record {
  band1 = filtered low_split low_split d w h plane r c;
  band2 = filtered high_split low_split d w h plane r c;
  band3 = filtered low_split high_split d w h plane r c;
  band4 = filtered high_split high_split d w h plane r c;
}

-- each band through the matching join taps, the four summed
unfoldable pub join : ℕ → ℕ → ℕ → (ℕ → ℕ → Bands ℤ) → ℕ → ℕ → ℤ
join d w h bands r c =
    filtered low_join low_join d w h (λ i j. (bands i j).band1) r c
    +ℤ filtered high_join low_join d w h (λ i j. (bands i j).band2) r c
    +ℤ filtered low_join high_join d w h (λ i j. (bands i j).band3) r c
    +ℤ filtered high_join high_join d w h (λ i j. (bands i j).band4) r c

-- ---- bringing a sum back: divided by d and rounded, then clipped
-- to least..most
abbrev pub rescaled : ℕ → ℤ → ℤ → ℤ → ℤ
rescaled d least most s = clamp least most (rounded d s)

-- (s + 512) whole-divided by 1,024, to 0..top, as a sample
unfoldable pub brought_back : ℕ → ℤ → ℕ
brought_back top s = clipped top (rounded 1024 s)

-- ---- what the filters in code ask of a value: no partial sum of any of the four then leaves 32 bits
abbrev pub Small : ℤ → Type 0
Small z = nat_abs z ≤ 178956970

-- a distance from 0 that code compares with, as a number of the machine
pub record Distance (most : ℤ) : Type 0 where
  pub sign : T (non_neg most)
  pub small : nat_abs most ≤ 1073741824

-- the two ends of a clip, as far from 0 as a working plane of 16-bit samples may be
pub record Ends (least most : ℤ) : Type 0 where
  pub from : nat_abs least ≤ 131070
  pub to : nat_abs most ≤ 131070
