-- Rows that are needed again stand in rings: row q in slot q mod n of n slots. What code makes of them. Assumes nothing.
use Rattle.std.specs.Prelude.{List, ℕ, ◌+◌, ◌*◌, ◌%◌, ◌≤◌, ℤ, pos, ◌+ℤ◌, ◌-ℤ◌}
use Rattle.border.specs.Border.{reflect}
use Rattle.filters.specs.Bank.{Taps, Distance, low_split, high_split}
use Rattle.lines.specs.declared.Five.{Five}
use Rattle.lines.specs.Lines.{Run, three}
use Rattle.projection.specs.Fast.{apart_row, together_row}
use Rattle.details.specs.Details.{difference_line}
use Rattle.rings.specs.declared.Given.{Given}
use Rattle.rings.specs.declared.Level.{Level}
use Rattle.rings.specs.Planes.{band_reach}

-- where row q of width w begins in a ring of n slots; and where the row begins that an index means in a plane
abbrev pub slot : ℕ → ℕ → ℕ → ℕ
slot n w q = q % n * w

abbrev pub slot_of : ℕ → Given → ℤ → ℕ
slot_of n g i = slot n g.width (reflect g.height i)

-- where a ring of n slots has five rows around row r, `spacing` apart
abbrev pub five_slots : ℕ → ℕ → Given → ℕ → Five
five_slots n spacing g r = record {
  a = slot_of n g (pos r -ℤ pos (2 * spacing));
  b = slot_of n g (pos r -ℤ pos spacing);
  c = slot n g.width r;
  d = slot_of n g (pos r +ℤ pos spacing);
  e = slot_of n g (pos r +ℤ pos (2 * spacing));
}

-- where row r begins in the plane's list, and in the guide's
abbrev pub row_at : Given → ℕ → ℕ
row_at g r = g.at + r * g.width

abbrev pub guide_at : Given → ℕ → ℕ
guide_at g r = g.from + r * g.down

-- row r of the differences
abbrev pub difference_row : Given → List ℤ → List ℕ → ℕ → ℕ → ℤ
difference_row g own guide r = difference_line own (row_at g r) guide (guide_at g r) g.across

-- ---- a row of a level's joined parts
-- a level that the code can work at
pub record Sound (v : Level) : Type 0 where
  pub spacing : v.spacing ≤ 2
  pub limit : Distance v.limit
  pub source_from : 1 ≤ v.source
  pub source_to : v.source ≤ 9
  pub slots_from : 1 ≤ v.slots
  pub slots_to : v.slots ≤ 9

-- the split lines of row r, from the ring of the level's source
unfoldable pub ring_line : Taps → Given → Level → List ℤ → ℕ → ℕ → ℤ
ring_line t g v ring r = three t ring (slot_of v.source g (pos r -ℤ pos v.spacing)) (slot v.source g.width r) (slot_of v.source g (pos r +ℤ pos v.spacing))

-- the three rows that they are made of
pub record RingRows (g : Given) (v : Level) (ring : List ℤ) (r : ℕ) : Type 0 where
  pub above : Run band_reach ring (slot_of v.source g (pos r -ℤ pos v.spacing)) g.width
  pub here : Run band_reach ring (slot v.source g.width r) g.width
  pub below : Run band_reach ring (slot_of v.source g (pos r +ℤ pos v.spacing)) g.width

-- row r, from that ring: the difference and the sum
abbrev pub ring_apart : Given → Level → List ℤ → ℕ → ℕ → ℤ
ring_apart g v ring r = apart_row v.limit v.spacing g.width (ring_line low_split g v ring r) (ring_line high_split g v ring r)

abbrev pub ring_together : Given → Level → List ℤ → ℕ → ℕ → ℤ
ring_together g v ring r = together_row v.limit v.spacing g.width (ring_line low_split g v ring r) (ring_line high_split g v ring r)
