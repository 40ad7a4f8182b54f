-- `rings::parts_row` meets its contract: both lines along the columns, what lies outside along them, and that joined.
use mathlib.Core.Path.{◌≡◌, sym, ◌∙◌, ap, subst}
use Prim.Native.Nat.{◌+◌, ◌*◌, ◌≤◌}
use native.Mathlib.Omega.{arith}
use lib.ListN.{length}
use mir.Syntax.{w32}
use mir.Val.{to_z, of_z}
use mir.Facts.{to_z-of_z as back}
use Rattle.integers.specs.Lists.{overwrite}
use Rattle.integers.proofs.Bounds.{fits_abs}
use Rattle.filters.specs.Bank.{Distance, low_split, high_split}
use Rattle.lines.specs.Lines.{padded}
use Rattle.projection.specs.Fast.{apart_row, together_row}
use Rattle.projection.proofs.Parts.{four}
use Rattle.rings.specs.Rows.{slot, ring_line}
use Rattle.rings.proofs.Rows.{slot_room, line_laid, line_run, outer_runs, both_laid}
use Rattle.rings.proofs.parts_row.Goals as goal
use Rattle.rings.proofs.parts_row.Goals.{After-split_line, Start}

-- ---- what is known there
module _ (s : goal.Start) where
  -- the lines have room
  rooms : let w = s.args.given.width in
      let d = s.args.level.spacing in
      let a = s.args in
      (d + w + d ≤ length a.low.now) × (d + w + d ≤ length a.high.now) × (2 * d + w + 2 * d ≤ length a.parts.now) × (2 * d + w + 2 * d ≤ length a.minus.now) × (2 * d + w + 2 * d ≤ length a.plus.now)
  rooms = let d = s.requires.sizes.2.spacing in (omega arith, omega arith, omega arith, omega arith, omega arith)

  -- without the places after them
  narrow : let w = s.args.given.width in
      let d = s.args.level.spacing in
      let a = s.args in
      (d + w ≤ length a.low.now) × (d + w ≤ length a.high.now) × (2 * d + w ≤ length a.parts.now) × (2 * d + w ≤ length a.minus.now) × (2 * d + w ≤ length a.plus.now)
  narrow = let p = rooms in (omega (arith, p.0), omega (arith, p.1), omega (arith, p.2), omega (arith, p.3), omega (arith, p.4))

  -- the limit, as the machine reads it
  limit_of : to_z w32 (of_z w32 s.args.level.limit) ≡ s.args.level.limit
  limit_of = back (fits_abs w32 s.args.level.limit (omega (arith, s.requires.sizes.2.limit.small)))

  limit_distance : Distance (to_z w32 (of_z w32 s.args.level.limit))
  limit_distance = subst Distance (sym limit_of) s.requires.sizes.2.limit

-- both lines along the columns
both_lines : (c : goal.After-split_line)
    → let a = c.args in
    (c.split_line.new.low ≡ overwrite a.low.now a.level.spacing a.given.width (ring_line low_split a.given a.level a.source.now a.r))
    × (c.split_line.new.high ≡ overwrite a.high.now a.level.spacing a.given.width (ring_line high_split a.given a.level a.source.now a.r))
both_lines c =
    let a = c.args in
    let above = c.slot_before-above.ensures.0 in
    let below = c.slot_after-below.ensures.0 in (
      line_laid a.given a.level a.r a.source.now above below low_split a.low.now c.split_line.ensures.low_after,
      line_laid a.given a.level a.r a.source.now above below high_split a.high.now c.split_line.ensures.high_after,
    )

pub outer_along-requires : goal.outer_along-requires
outer_along-requires c =
    let a = c.args in
    let p = c.requires.sizes in
    let s = (goal.at.outer_along-requires c).Start in
    let room = rooms s in
    let n = narrow s in
    let lines = both_lines (goal.at.outer_along-requires c).After-split_line in
    let low = line_run a.level.limit p.2.limit.sign a.given a.level a.r p.0.width_from a.source.now p.3 low_split four.0 a.low.now n.0 lines.0 in
    let high = line_run a.level.limit p.2.limit.sign a.given a.level a.r p.0.width_from a.source.now p.3 high_split four.1 a.high.now n.1 lines.1 in
    record { le_n = (p.0.width_from, p.0.width_to, p.2.spacing, omega (arith, c.split_line.auto.low, room.0), omega (arith, c.split_line.auto.high, room.1), low, high); distance = (limit_distance s, n.2, n.3, n.4) }

pub join_along-requires : goal.join_along-requires
join_along-requires c =
    let a = c.args in
    let p = c.requires.sizes in
    let s = (goal.at.join_along-requires c).Start in
    let room = rooms s in
    let n = narrow s in
    let lines = both_lines (goal.at.join_along-requires c).After-split_line in
    let runs = outer_runs (to_z w32 (of_z w32 a.level.limit)) (limit_distance s).sign a.given a.level a.r p.0.width_from a.source.now p.3 a.low.now a.high.now n.0 n.1 lines.0 lines.1 a.parts.now a.minus.now a.plus.now n.2 n.3 n.4 c.outer_along.ensures.parts_after c.outer_along.ensures.minus_after c.outer_along.ensures.plus_after in
    let place = slot_room a.level.slots a.given.width a.r p.2.slots_from in
    record { le_n = (p.0.width_from, p.0.width_to, p.2.spacing, omega (arith, c.outer_along.auto.parts, room.2), omega (arith, c.outer_along.auto.minus, room.3), omega (arith, c.outer_along.auto.plus, room.4)); run = (runs.0, runs.1, runs.2, omega (arith, place, c.requires.width_in_bounds_2.0), omega (arith, place, c.requires.width_in_bounds_2.1)) }

pub returns : goal.returns
returns c =
    let a = c.args in
    let g = a.given in
    let p = c.requires.sizes in
    let s = (goal.at.returns c).Start in
    let n = narrow s in
    let lines = both_lines (goal.at.returns c).After-split_line in
    let at = slot a.level.slots g.width a.r in
    let laid = both_laid (to_z w32 (of_z w32 a.level.limit)) (limit_distance s).sign g a.level a.r p.0.width_from a.source.now p.3 a.low.now a.high.now n.0 n.1 lines.0 lines.1 a.parts.now a.minus.now a.plus.now n.2 n.3 n.4 c.outer_along.ensures.parts_after c.outer_along.ensures.minus_after c.outer_along.ensures.plus_after a.apart.now a.together.now at c.join_along.ensures.apart_after c.join_along.ensures.together_after in
    let low = ring_line low_split g a.level a.source.now a.r in
    let high = ring_line high_split g a.level a.source.now a.r in
    record { low_after = c.outer_along.ensures.low_after.0 ∙ ap (padded g.width a.level.spacing) lines.0; apart_after = laid.0 ∙ (λ m. overwrite a.apart.now at g.width (apart_row (limit_of s m) a.level.spacing g.width low high)); together_after = laid.1 ∙ (λ m. overwrite a.together.now at g.width (together_row (limit_of s m) a.level.spacing g.width low high)) }
