-- The stage of a level: from a ring that holds a plane's rows, it fills rings with the rows of the plane's joined parts. Assumes nothing.
use mathlib.Core.Path.{◌≡◌, refl, ◌∙◌}
use mathlib.Core.List.{List}
use Prim.Native.Nat.{ℕ, ◌+◌, ◌*◌, ◌≤◌, ◌<◌}
use native.Mathlib.Omega.{arith}
use lib.IntN.{ℤ, pos, nat_abs}
use lib.ListN.{length}
use Rattle.filters.specs.Bank.{Taps, weighted, tap, along, along_columns, low_split, high_split}
use Rattle.filters.proofs.Taps.{weighted-three}
use Rattle.lines.specs.Lines.{three}
use Rattle.projection.proofs.Parts.{apart_plane, together_plane, apart_inside, together_inside}
use Rattle.rings.specs.declared.Given.{Given}
use Rattle.rings.specs.declared.Level.{Level}
use Rattle.rings.specs.Planes.{band_reach}
use Rattle.rings.specs.Rows.{Sound, ring_line, RingRows, ring_apart, ring_together}
use Rattle.rings.specs.Stages.{reached, Working, ring_row_laid}
use Rattle.rings.proofs.Rings.{Held, held_next, held_back, held_here, held_on, run_back, run_here, run_on}

-- the plane's own stage lags `lag` steps, and its ring keeps the rows that the level needs
module _ (g : Given) (wide : 1 ≤ g.width) (v : Level) (sound : Sound v) (t lag : ℕ) (made : lag + v.spacing ≤ v.lag) (kept : v.lag + 1 + v.spacing ≤ lag + v.source)
    {l : List ℤ} {f : ℕ → ℕ → ℤ} (held : Held g v.source lag l f (t + 1)) where
  -- the row that is made at step t
  abbrev row : ℕ
  row = reached v.lag g.height t

  enough : v.spacing ≤ v.spacing
  enough = omega arith

  module _ (i : Working v.lag g.height t) where
    pub parts_ready : v.source * g.width ≤ length l → ((q c : ℕ) → q < g.height → c < g.width → nat_abs (f q c) ≤ band_reach) → RingRows g v l row
    parts_ready room small = record {
      above = run_back g v.lag t i v.source lag v.spacing sound.source_from made kept held room band_reach small v.spacing enough;
      here = run_here g v.lag t i v.source lag v.spacing sound.source_from made kept held room band_reach small;
      below = run_on g v.lag t i v.source lag v.spacing sound.source_from made kept held room band_reach small v.spacing enough;
    }

    -- the lines along the columns
    pub line_is : (x : Taps) → x.far ≡ pos 0 → (c : ℕ) → c < g.width → ring_line x g v l row c ≡ along_columns x v.spacing g.height f row c
    unfolding ring_line three along_columns along tap
    line_is x z c j =
        (λ m. weighted x (pos 0)
        (held_back g v.lag t i v.source lag v.spacing sound.source_from made kept held c j v.spacing enough m)
        (held_here g v.lag t i v.source lag v.spacing sound.source_from made kept held c j m)
        (held_on g v.lag t i v.source lag v.spacing sound.source_from made kept held c j v.spacing enough m) (pos 0))
        ∙ weighted-three x z _ _ _ _ _

    low_is : (c : ℕ) → c < g.width → ring_line low_split g v l row c ≡ along_columns low_split v.spacing g.height f row c
    unfolding low_split
    low_is = line_is low_split refl

    high_is : (c : ℕ) → c < g.width → ring_line high_split g v l row c ≡ along_columns high_split v.spacing g.height f row c
    unfolding high_split
    high_is = line_is high_split refl

  -- the rings that it fills
  abbrev A : ℕ → ℕ → ℤ
  A = apart_plane v.limit v.spacing g.width g.height f

  abbrev B : ℕ → ℕ → ℤ
  B = together_plane v.limit v.spacing g.width g.height f

  pub apart_next : (x : List ℤ) → v.slots * g.width ≤ length x → Held g v.slots v.lag x A t → {x' : List ℤ} → x' ≡ ring_row_laid v.slots v.lag g t x (ring_apart g v l) → Held g v.slots v.lag x' A (t + 1)
  apart_next x room ring q = held_next g v.lag t v.slots sound.slots_from x room A ring _ q (λ i c j. apart_inside v.limit v.spacing g.width wide _ _ _ _ (low_is i) (high_is i) c)

  pub together_next : (x : List ℤ) → v.slots * g.width ≤ length x → Held g v.slots v.lag x B t → {x' : List ℤ} → x' ≡ ring_row_laid v.slots v.lag g t x (ring_together g v l) → Held g v.slots v.lag x' B (t + 1)
  together_next x room ring q = held_next g v.lag t v.slots sound.slots_from x room B ring _ q (λ i c j. together_inside v.limit v.spacing g.width wide _ _ _ _ (low_is i) (high_is i) c)
