-- `sweep::project_rows` meets its contract: each step takes every stage one row further.
use mathlib.Core.Path.{◌≡◌, sym, subst}
use mathlib.Core.List.{List}
use Prim.Native.Nat.{ℕ, ◌+◌, ◌*◌, ◌≤◌}
use native.Mathlib.Omega.{arith}
use lib.IntN.{ℤ}
use lib.ListN.{length}
use mir.Syntax.{w32}
use mir.Val.{to_z, of_z}
use mir.Facts.{to_z-of_z as back}
use Rattle.integers.proofs.Bounds.{fits_abs}
use Rattle.filters.specs.Bank.{Distance}
use Rattle.rings.specs.declared.Given.{Given}
use Rattle.rings.specs.declared.Level.{Level}
use Rattle.rings.specs.Rows.{Sound, RingRows, ring_apart, ring_together}
use Rattle.rings.specs.Stages.{reached, ring_row_laid}
use Rattle.rings.proofs.Rings.{Held}
use Rattle.rings.proofs.Planes.{difference_ready, difference_next}
use Rattle.projection.specs.Fast.{difference}
use Rattle.projection.proofs.Parts.{apart_plane, together_plane}
use Rattle.rings.specs.Planes.{own_plane, guide_plane}
use Rattle.sweep.proofs.Sweep.{level_of, settled_plane, start, sound, rows_ready, aparts_next, togethers_next, settled_ready, settled_next, all_projected}
use Rattle.sweep.proofs.project_rows.Goals as goal
use Rattle.sweep.proofs.project_rows.Goals.{After-difference_stage, After-parts_stage}

-- the limit, as the machine reads it
abbrev read : ℤ → ℤ
read z = to_z w32 (of_z w32 z)

-- the level, with its limit as the machine reads it
abbrev level_read : Given → ℕ → Level
level_read g n = record { spacing = 1; limit = read g.limit; source = 3; slots = n; lag = 1 }

level_is : (g : Given) (n : ℕ) → Distance g.limit → level_read g n ≡ level_of g n
level_is g n limit = λ j. record { spacing = 1; limit = back (fits_abs w32 g.limit (omega (arith, limit.small))) j; source = 3; slots = n; lag = 1 }

pub loop-t-init : goal.loop-t-init
loop-t-init c =
    let a = c.args in
    let x = a.kept.now in
    start a.given a.range.least a.range.most a.own.now a.guide.now x.differences x.apart x.together

-- ---- a step
pub difference_stage-requires : goal.difference_stage-requires
difference_stage-requires c =
    let a = c.args in
    let p = c.requires in
    record { sizes = (p.sizes, omega (arith, p.sizes.width_to, c.loop-t.kept.differences_room)); run = difference_ready a.given a.own.now (settled_plane a.given a.range.least a.range.most a.own.now a.guide.now) a.guide.now p 3 c.loop-t.t c.loop-t.invariant.plane }

-- the ring of differences after its stage
module _ (d : goal.After-difference_stage) where
  abbrev ring : List ℤ
  ring = d.difference_stage.new.ring

  ring_before : 3 * d.args.given.width ≤ length d.loop-t.kept.differences
  ring_before = let w = d.requires.sizes.width_to in omega (arith, d.loop-t.kept.differences_room)

  ring_room : 3 * d.args.given.width ≤ length ring
  ring_room = let r = ring_before in omega (arith, d.difference_stage.auto.ring)

  ring_held : let a = d.args in Held a.given 3 0 ring (difference (own_plane a.given a.own.now) (guide_plane a.given a.guide.now)) (d.loop-t.t + 1)
  ring_held =
      let a = d.args in
      let v = d.loop-t.invariant in
      let p = d.requires in
      difference_next a.given a.own.now (settled_plane a.given a.range.least a.range.most a.own.now a.guide.now) a.guide.now p 3 d.loop-t.t v.plane d.loop-t.kept.differences ring_before v.differences d.difference_stage.ensures

pub parts_stage-requires : goal.parts_stage-requires
parts_stage-requires c =
    let d = (goal.at.parts_stage-requires c).After-difference_stage in
    let a = c.args in
    let g = a.given in
    let p = c.requires in
    let w = p.sizes.width_to in
    let t = c.loop-t.t in
    let e = sym (level_is g _ p.limit) in
    let o = c.loop-t.kept.outside_room in
    let l = c.loop-t.kept.lines_room in
    let j = c.loop-t.kept.joined_room in
    record { sizes = (p.sizes, subst Sound e (sound g a.range.least a.range.most a.own.now a.guide.now p t _ (omega arith) (omega arith))); ring_rows = (λ i. subst (λ (x : Level). RingRows g x (ring d) (reached 1 g.height t)) e (rows_ready g a.range.least a.range.most a.own.now a.guide.now p t (ring_held d) _ (omega arith) (omega arith) (ring_room d) i)); width_in_bounds = (omega (arith, w, l.1), omega (arith, w, l.0), omega (arith, w, o.2), omega (arith, w, o.1), omega (arith, w, o.0)); width_in_bounds_2 = (omega (arith, w, j.0), omega (arith, w, j.1)) }

-- the rings of joined parts before theirs, and after it
module _ (q : goal.After-parts_stage) (held : let a = q.args in Held a.given 3 0 q.difference_stage.new.ring (difference (own_plane a.given a.own.now) (guide_plane a.given a.guide.now)) (q.loop-t.t + 1)) where
  room_before : (5 * q.args.given.width ≤ length q.loop-t.kept.apart) × (5 * q.args.given.width ≤ length q.loop-t.kept.together)
  room_before = let w = q.requires.sizes.width_to in let j = q.loop-t.kept.joined_room in (omega (arith, j.0), omega (arith, j.1))

  room : (5 * q.args.given.width ≤ length q.parts_stage.new.apart) × (5 * q.args.given.width ≤ length q.parts_stage.new.together)
  room = let r = room_before in (omega (arith, r.0, q.parts_stage.auto.apart), omega (arith, r.1, q.parts_stage.auto.together))

  apart_held : let a = q.args in Held a.given 5 1 q.parts_stage.new.apart (apart_plane a.given.limit 1 a.given.width a.given.height (difference (own_plane a.given a.own.now) (guide_plane a.given a.guide.now))) (q.loop-t.t + 1)
  apart_held =
      let a = q.args in
      let g = a.given in
      let v = q.loop-t.invariant in
      let p = q.requires in
      aparts_next g a.range.least a.range.most a.own.now a.guide.now p q.loop-t.t held q.loop-t.kept.apart room_before.0 v.aparts
      (subst (λ (x : Level). q.parts_stage.new.apart ≡ ring_row_laid 5 1 g q.loop-t.t q.loop-t.kept.apart (ring_apart g x q.difference_stage.new.ring)) (level_is g 5 p.limit) q.parts_stage.ensures.apart_after)

  together_held : let a = q.args in Held a.given 5 1 q.parts_stage.new.together (together_plane a.given.limit 1 a.given.width a.given.height (difference (own_plane a.given a.own.now) (guide_plane a.given a.guide.now))) (q.loop-t.t + 1)
  together_held =
      let a = q.args in
      let g = a.given in
      let v = q.loop-t.invariant in
      let p = q.requires in
      togethers_next g a.range.least a.range.most a.own.now a.guide.now p q.loop-t.t held q.loop-t.kept.together room_before.1 v.togethers
      (subst (λ (x : Level). q.parts_stage.new.together ≡ ring_row_laid 5 1 g q.loop-t.t q.loop-t.kept.together (ring_together g x q.difference_stage.new.ring)) (level_is g 5 p.limit) q.parts_stage.ensures.together_after)

pub settled_stage-requires : goal.settled_stage-requires
settled_stage-requires c =
    let q = (goal.at.settled_stage-requires c).After-parts_stage in
    let held = ring_held (goal.at.settled_stage-requires c).After-difference_stage in
    let a = c.args in
    let p = c.requires in
    let r = room q held in
    record { sizes = p.sizes; run = settled_ready a.given a.range.least a.range.most a.own.now a.guide.now p c.loop-t.t c.loop-t.invariant.plane (apart_held q held) (together_held q held) r.0 r.1 }

pub loop-t-preserved : goal.loop-t-preserved
loop-t-preserved c =
    let q = (goal.at.loop-t-preserved c).After-parts_stage in
    let held = ring_held (goal.at.loop-t-preserved c).After-difference_stage in
    let a = c.args in
    record {
      plane = settled_next a.given a.range.least a.range.most a.own.now a.guide.now c.requires c.loop-t.t c.loop-t.invariant.plane (apart_held q held) (together_held q held) c.settled_stage.ensures;
      differences = held;
      aparts = apart_held q held;
      togethers = together_held q held;
    }

pub returns : goal.returns
returns c =
    let a = c.args in
    all_projected a.given a.range.least a.range.most a.own.now a.guide.now c.requires c.loop-t.t (omega (arith, c.loop-t-test.false)) c.loop-t.invariant.plane
