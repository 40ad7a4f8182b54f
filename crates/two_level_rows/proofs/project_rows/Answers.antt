-- `two_level_rows::project_rows` meets its contract: each step takes every stage one row further.
use mathlib.Core.Path.{◌≡◌, sym, ◌∙◌, subst}
use mathlib.Core.List.{List}
use Prim.Native.Nat.{ℕ, ◌+◌, ◌*◌, ◌≤◌}
use native.Mathlib.Omega.{arith}
use lib.IntN.{ℤ}
use lib.ListN.{length}
use mir.Syntax.{w32}
use mir.Val.{to_z, of_z, SFits}
use mir.Facts.{to_z-of_z as back}
use Rattle.integers.specs.Lists.{overwrite}
use Rattle.integers.proofs.Bounds.{fits_abs}
use Rattle.filters.specs.Bank.{Distance, low_split}
use Rattle.lines.specs.Lines.{padded}
use Rattle.rings.specs.declared.Given.{Given}
use Rattle.rings.specs.declared.Level.{Level}
use Rattle.rings.specs.Rows.{Sound, ring_line, RingRows, ring_apart, ring_together}
use Rattle.rings.specs.Stages.{reached, Working, ring_row_laid}
use Rattle.rings.proofs.Rings.{Held}
use Rattle.rings.proofs.Planes.{difference_ready, difference_next}
use Rattle.two_level_rows.specs.TwoLevels.{with_projected}
use Rattle.two_level_rows.proofs.Sweep.{first_level, start, D, Band, A1, B1, A2, B2, A, B, R, P, Sides, first_sound, second_sound, first_ready, apart1_next, together1_next, band_ready, band_next, second_ready, apart2_next, together2_next, merged_ready, merged_apart_next, merged_together_next, rests_next, settled_ready, settled_next, all_projected}
use Rattle.two_level_rows.proofs.project_rows.Goals as goal
use Rattle.two_level_rows.proofs.project_rows.Goals.{After-band_stage, After-difference_stage, After-merged_stage, After-parts_stage, After-parts_stage-in-loop-t}

-- a length that is kept still has room
as_long : {m x y : ℕ} → x ≡ y → m ≤ y → m ≤ x
as_long {m} e r = subst (λ (k : ℕ). m ≤ k) (sym e) r

-- the second limit and the clip's ends, as the machine reads them
abbrev read : ℤ → ℤ
read z = to_z w32 (of_z w32 z)

abbrev sides : Given → ℤ → ℤ → ℤ → List ℤ → List ℕ → Sides
sides g second least most own guide = record { given = g; second = read second; least = read least; most = read most; own = own; guide = guide }

distance : {z : ℤ} → SFits w32 z → Distance z → Distance (read z)
distance fits d = subst Distance (sym (back fits)) d

-- the first level, with its limit as the machine reads it
abbrev first_read : Given → Level
first_read g = record { spacing = 1; limit = read g.limit; source = 3; slots = 7; lag = 1 }

first_is : (g : Given) → Distance g.limit → first_read g ≡ first_level g
first_is g limit = λ j. record { spacing = 1; limit = back (fits_abs w32 g.limit (omega (arith, limit.small))) j; source = 3; slots = 7; lag = 1 }

pub loop-t-init : goal.loop-t-init
loop-t-init c = let a = c.args in start (sides a.given a.second_limit a.least a.most a.own.now a.guide.now) (record { differences = a.differences.now; band = a.band.now; apart1 = a.apart1.now; together1 = a.together1.now; apart2 = a.apart2.now; together2 = a.together2.now; apart = a.apart.now; together = a.together.now; rests = a.rests.now })

-- ---- a step
pub difference_stage-requires : goal.difference_stage-requires
difference_stage-requires c =
    let a = c.args in
    let p = c.requires.projectable.0 in
    record { sizes = (p.sizes, as_long c.loop-t.auto.differences c.requires.width_in_bounds.0); run = difference_ready a.given a.own.now (P (sides a.given a.second_limit a.least a.most a.own.now a.guide.now)) a.guide.now p 9 c.loop-t.t c.loop-t.invariant.plane }

-- the ring of differences after its stage
module _ (d : goal.After-difference_stage) where
  abbrev sd : Sides
  sd = let a = d.args in sides a.given a.second_limit a.least a.most a.own.now a.guide.now

  abbrev ring : List ℤ
  ring = d.difference_stage.new.ring

  ring_before : 3 * d.args.given.width ≤ length d.loop-t.differences
  ring_before = as_long d.loop-t.auto.differences d.requires.width_in_bounds.0

  ring_room : 3 * d.args.given.width ≤ length ring
  ring_room = as_long d.difference_stage.auto.ring ring_before

  ring_held : Held d.args.given 3 0 ring (D sd) (d.loop-t.t + 1)
  ring_held =
      let a = d.args in
      let v = d.loop-t.invariant in
      difference_next a.given a.own.now (P sd) a.guide.now d.requires.projectable.0 9 d.loop-t.t v.plane d.loop-t.differences ring_before v.differences d.difference_stage.ensures

pub parts_stage-requires : goal.parts_stage-requires
parts_stage-requires c =
    let d = (goal.at.parts_stage-requires c).After-difference_stage in
    let g = c.args.given in
    let p = c.requires.projectable.0 in
    let far = distance c.ranges.second_limit c.requires.projectable.1 in
    let e = sym (first_is g p.limit) in
    let l = c.loop-t.auto in
    let r = c.requires.width_in_bounds in
    let z = c.requires.width_in_bounds_3 in
    record {
      sizes = (p.sizes, subst Sound e (first_sound (sd d) p far));
      ring_rows = λ i. subst (λ (x : Level). RingRows g x (ring d) (reached 1 g.height c.loop-t.t)) e (first_ready (sd d) p far c.loop-t.t (ring_held d) (ring_room d) i);
      width_in_bounds = (as_long l.low z.0, as_long l.high z.1, as_long l.parts z.2, as_long l.minus z.3, as_long l.plus z.4);
      width_in_bounds_2 = (as_long l.apart1 r.2, as_long l.together1 r.3);
    }

-- the first level's rings before its stage and after it, and its line
module _ (q : goal.After-parts_stage) where
  abbrev sq : Sides
  sq = let a = q.args in sides a.given a.second_limit a.least a.most a.own.now a.guide.now

  abbrev aparts1 : List ℤ
  aparts1 = q.parts_stage.new.apart

  abbrev togethers1 : List ℤ
  togethers1 = q.parts_stage.new.together

  first_before : (7 * q.args.given.width ≤ length q.loop-t.apart1) × (7 * q.args.given.width ≤ length q.loop-t.together1)
  first_before = (as_long q.loop-t.auto.apart1 q.requires.width_in_bounds.2, as_long q.loop-t.auto.together1 q.requires.width_in_bounds.3)

  first_room : (7 * q.args.given.width ≤ length aparts1) × (7 * q.args.given.width ≤ length togethers1)
  first_room = (as_long q.parts_stage.auto.apart first_before.0, as_long q.parts_stage.auto.together first_before.1)

  -- the lines still have room
  low_room : q.args.given.width + 8 ≤ length q.parts_stage.new.low
  low_room = as_long (q.parts_stage.auto.low ∙ q.loop-t.auto.low) q.requires.width_in_bounds_3.0

  high_room : q.args.given.width + 8 ≤ length q.parts_stage.new.high
  high_room = as_long (q.parts_stage.auto.high ∙ q.loop-t.auto.high) q.requires.width_in_bounds_3.1

  line_is : let g = q.args.given in
      let t = q.loop-t.t in Working 1 g.height t → q.parts_stage.new.low ≡ padded g.width 1 (overwrite q.loop-t.low 1 g.width (ring_line low_split g (first_level g) q.difference_stage.new.ring (reached 1 g.height t)))
  line_is i =
      let g = q.args.given in
      subst (λ (x : Level). q.parts_stage.new.low ≡ padded g.width 1 (overwrite q.loop-t.low 1 g.width (ring_line low_split g x q.difference_stage.new.ring (reached 1 g.height q.loop-t.t)))) (first_is g q.requires.projectable.0.limit) (q.parts_stage.ensures.low_after i)

  module _ (held : Held q.args.given 3 0 q.difference_stage.new.ring (D sq) (q.loop-t.t + 1)) where
    aparts1_held : Held q.args.given 7 1 aparts1 (A1 sq) (q.loop-t.t + 1)
    aparts1_held =
        let g = q.args.given in
        apart1_next sq q.requires.projectable.0 (distance q.ranges.second_limit q.requires.projectable.1) q.loop-t.t held q.loop-t.apart1 first_before.0 q.loop-t.invariant.aparts1
        (subst (λ (x : Level). aparts1 ≡ ring_row_laid 7 1 g q.loop-t.t q.loop-t.apart1 (ring_apart g x q.difference_stage.new.ring)) (first_is g q.requires.projectable.0.limit) q.parts_stage.ensures.apart_after)

    togethers1_held : Held q.args.given 7 1 togethers1 (B1 sq) (q.loop-t.t + 1)
    togethers1_held =
        let g = q.args.given in
        together1_next sq q.requires.projectable.0 (distance q.ranges.second_limit q.requires.projectable.1) q.loop-t.t held q.loop-t.together1 first_before.1 q.loop-t.invariant.togethers1
        (subst (λ (x : Level). togethers1 ≡ ring_row_laid 7 1 g q.loop-t.t q.loop-t.together1 (ring_together g x q.difference_stage.new.ring)) (first_is g q.requires.projectable.0.limit) q.parts_stage.ensures.together_after)

pub band_stage-requires : goal.band_stage-requires
band_stage-requires c =
    let q = (goal.at.band_stage-requires c).After-parts_stage in
    let d = (goal.at.band_stage-requires c).After-difference_stage in
    let p = c.requires.projectable.0 in
    record { sizes = (p.sizes, as_long c.loop-t.auto.band c.requires.width_in_bounds.1); triple = band_ready (sq q) p (distance c.ranges.second_limit c.requires.projectable.1) c.loop-t.t (ring_held d) (ring_room d) c.loop-t.low (as_long c.loop-t.auto.low c.requires.width_in_bounds_3.0) (line_is q) }

-- the ring of band 1 after its stage
module _ (n : goal.After-band_stage) where
  abbrev sn : Sides
  sn = let a = n.args in sides a.given a.second_limit a.least a.most a.own.now a.guide.now

  abbrev bands : List ℤ
  bands = n.band_stage.new.band

  band_before : 5 * n.args.given.width ≤ length n.loop-t.band
  band_before = as_long n.loop-t.auto.band n.requires.width_in_bounds.1

  band_room : 5 * n.args.given.width ≤ length bands
  band_room = as_long n.band_stage.auto.band band_before

  bands_held : let g = n.args.given in
      let t = n.loop-t.t in
      let ring = n.difference_stage.new.ring in
      Held g 3 0 ring (D sn) (t + 1) → 3 * g.width ≤ length ring
      → (Working 1 g.height t → n.parts_stage.new.low ≡ padded g.width 1 (overwrite n.loop-t.low 1 g.width (ring_line low_split g (first_level g) ring (reached 1 g.height t))))
      → Held g 5 1 bands (Band sn) (t + 1)
  bands_held held room line =
      let p = n.requires.projectable.0 in
      band_next sn p (distance n.ranges.second_limit n.requires.projectable.1) n.loop-t.t held room n.loop-t.low (as_long n.loop-t.auto.low n.requires.width_in_bounds_3.0) line n.loop-t.band band_before n.loop-t.invariant.bands n.band_stage.ensures

pub parts_stage-requires-in-loop-t : goal.parts_stage-requires-in-loop-t
parts_stage-requires-in-loop-t c =
    let d = (goal.at.parts_stage-requires-in-loop-t c).After-difference_stage in
    let q = (goal.at.parts_stage-requires-in-loop-t c).After-parts_stage in
    let n = (goal.at.parts_stage-requires-in-loop-t c).After-band_stage in
    let p = c.requires.projectable.0 in
    let far = distance c.ranges.second_limit c.requires.projectable.1 in
    let l = c.loop-t.auto in
    let m = c.parts_stage.auto in
    let r = c.requires.width_in_bounds in
    let z = c.requires.width_in_bounds_3 in
    record {
      sizes = (p.sizes, second_sound (sn n) p far);
      ring_rows = second_ready (sn n) p far c.loop-t.t (bands_held n (ring_held d) (ring_room d) (line_is q)) (band_room n);
      width_in_bounds = (low_room q, high_room q, as_long (m.parts ∙ l.parts) z.2, as_long (m.minus ∙ l.minus) z.3, as_long (m.plus ∙ l.plus) z.4);
      width_in_bounds_2 = (as_long l.apart2 r.4, as_long l.together2 r.5);
    }

-- the second level's rings before its stage and after it
module _ (u : goal.After-parts_stage-in-loop-t) where
  abbrev su : Sides
  su = let a = u.args in sides a.given a.second_limit a.least a.most a.own.now a.guide.now

  abbrev aparts2 : List ℤ
  aparts2 = u.parts_stage-in-loop-t.new.apart

  abbrev togethers2 : List ℤ
  togethers2 = u.parts_stage-in-loop-t.new.together

  second_before : (9 * u.args.given.width ≤ length u.loop-t.apart2) × (9 * u.args.given.width ≤ length u.loop-t.together2)
  second_before = (as_long u.loop-t.auto.apart2 u.requires.width_in_bounds.4, as_long u.loop-t.auto.together2 u.requires.width_in_bounds.5)

  second_room : (9 * u.args.given.width ≤ length aparts2) × (9 * u.args.given.width ≤ length togethers2)
  second_room = (as_long u.parts_stage-in-loop-t.auto.apart second_before.0, as_long u.parts_stage-in-loop-t.auto.together second_before.1)

  module _ (held : Held u.args.given 5 1 u.band_stage.new.band (Band su) (u.loop-t.t + 1)) where
    aparts2_held : Held u.args.given 9 3 aparts2 (A2 su) (u.loop-t.t + 1)
    aparts2_held = apart2_next su u.requires.projectable.0 (distance u.ranges.second_limit u.requires.projectable.1) u.loop-t.t held u.loop-t.apart2 second_before.0 u.loop-t.invariant.aparts2 u.parts_stage-in-loop-t.ensures.apart_after

    togethers2_held : Held u.args.given 9 3 togethers2 (B2 su) (u.loop-t.t + 1)
    togethers2_held = together2_next su u.requires.projectable.0 (distance u.ranges.second_limit u.requires.projectable.1) u.loop-t.t held u.loop-t.together2 second_before.1 u.loop-t.invariant.togethers2 u.parts_stage-in-loop-t.ensures.together_after

pub merged_stage-requires : goal.merged_stage-requires
merged_stage-requires c =
    let d = (goal.at.merged_stage-requires c).After-difference_stage in
    let q = (goal.at.merged_stage-requires c).After-parts_stage in
    let n = (goal.at.merged_stage-requires c).After-band_stage in
    let u = (goal.at.merged_stage-requires c).After-parts_stage-in-loop-t in
    let held = ring_held d in
    let a1 = aparts1_held q held in
    let b1 = togethers1_held q held in
    let bands = bands_held n held (ring_room d) (line_is q) in
    let a2 = aparts2_held u bands in
    let b2 = togethers2_held u bands in
    let p = c.requires.projectable.0 in
    let r1 = first_room q in
    let r2 = second_room u in
    let l = c.loop-t.auto in
    let k = c.parts_stage-in-loop-t.auto in
    let z = c.requires.width_in_bounds_2 in
    record { sizes = p.sizes; crossing = merged_ready (su u) p (distance c.ranges.second_limit c.requires.projectable.1) c.loop-t.t a2 b2 a1 b1 r2.0 r2.1 r1.0 r1.1; width_in_bounds = (as_long k.low (low_room q), as_long k.high (high_room q)); width_in_bounds_2 = (as_long l.apart z.0, as_long l.together z.1, as_long l.rests z.2) }

-- the merged rings before their stage and after it
module _ (m : goal.After-merged_stage) where
  abbrev sm : Sides
  sm = let a = m.args in sides a.given a.second_limit a.least a.most a.own.now a.guide.now

  abbrev aparts : List ℤ
  aparts = m.merged_stage.new.apart

  abbrev togethers : List ℤ
  togethers = m.merged_stage.new.together

  merged_before : (5 * m.args.given.width ≤ length m.loop-t.apart) × (5 * m.args.given.width ≤ length m.loop-t.together) × (5 * m.args.given.width ≤ length m.loop-t.rests)
  merged_before = let z = m.requires.width_in_bounds_2 in (as_long m.loop-t.auto.apart z.0, as_long m.loop-t.auto.together z.1, as_long m.loop-t.auto.rests z.2)

  merged_room : (5 * m.args.given.width ≤ length aparts) × (5 * m.args.given.width ≤ length togethers) × (5 * m.args.given.width ≤ length m.merged_stage.new.rests)
  merged_room = let b = merged_before in (as_long m.merged_stage.auto.apart b.0, as_long m.merged_stage.auto.together b.1, as_long m.merged_stage.auto.rests b.2)

  module _ (held_a2 : Held m.args.given 9 3 m.parts_stage-in-loop-t.new.apart (A2 sm) (m.loop-t.t + 1)) (held_b2 : Held m.args.given 9 3 m.parts_stage-in-loop-t.new.together (B2 sm) (m.loop-t.t + 1)) where
    abbrev far : Distance sm.second
    far = distance m.ranges.second_limit m.requires.projectable.1

    aparts_held : Held m.args.given 7 1 m.parts_stage.new.apart (A1 sm) (m.loop-t.t + 1) → Held m.args.given 5 7 aparts (A sm) (m.loop-t.t + 1)
    aparts_held a1 = merged_apart_next sm m.requires.projectable.0 far m.loop-t.t held_a2 held_b2 a1 m.loop-t.apart merged_before.0 m.loop-t.invariant.aparts m.merged_stage.ensures.apart_after

    togethers_held : Held m.args.given 7 1 m.parts_stage.new.together (B1 sm) (m.loop-t.t + 1) → Held m.args.given 5 7 togethers (B sm) (m.loop-t.t + 1)
    togethers_held b1 = merged_together_next sm m.requires.projectable.0 far m.loop-t.t held_a2 held_b2 b1 m.loop-t.together merged_before.1 m.loop-t.invariant.togethers m.merged_stage.ensures.together_after

    rests_held : Held m.args.given 5 7 m.merged_stage.new.rests (R sm) (m.loop-t.t + 1)
    rests_held = rests_next sm m.requires.projectable.0 far m.loop-t.t held_a2 held_b2 m.loop-t.rests merged_before.2 m.loop-t.invariant.rests m.merged_stage.ensures.rests_after

pub settled_stage-requires : goal.settled_stage-requires
settled_stage-requires c =
    let d = (goal.at.settled_stage-requires c).After-difference_stage in
    let q = (goal.at.settled_stage-requires c).After-parts_stage in
    let n = (goal.at.settled_stage-requires c).After-band_stage in
    let u = (goal.at.settled_stage-requires c).After-parts_stage-in-loop-t in
    let held = ring_held d in
    let a1 = aparts1_held q held in
    let b1 = togethers1_held q held in
    let bands = bands_held n held (ring_room d) (line_is q) in
    let a2 = aparts2_held u bands in
    let b2 = togethers2_held u bands in
    let m = (goal.at.settled_stage-requires c).After-merged_stage in
    let p = c.requires.projectable.0 in
    let r = merged_room m in
    record { sizes = (p.sizes, as_long c.merged_stage.auto.whole (as_long c.parts_stage-in-loop-t.auto.low (low_room q))); run = settled_ready (sm m) p (distance c.ranges.second_limit c.requires.projectable.1) c.loop-t.t c.loop-t.invariant.plane (aparts_held m a2 b2 a1) (togethers_held m a2 b2 b1) (rests_held m a2 b2) r.0 r.1 r.2 }

pub loop-t-preserved : goal.loop-t-preserved
loop-t-preserved c =
    let d = (goal.at.loop-t-preserved c).After-difference_stage in
    let q = (goal.at.loop-t-preserved c).After-parts_stage in
    let n = (goal.at.loop-t-preserved c).After-band_stage in
    let u = (goal.at.loop-t-preserved c).After-parts_stage-in-loop-t in
    let held = ring_held d in
    let a1 = aparts1_held q held in
    let b1 = togethers1_held q held in
    let bands = bands_held n held (ring_room d) (line_is q) in
    let a2 = aparts2_held u bands in
    let b2 = togethers2_held u bands in
    let m = (goal.at.loop-t-preserved c).After-merged_stage in
    let aparts = aparts_held m a2 b2 a1 in
    let togethers = togethers_held m a2 b2 b1 in
    let rests = rests_held m a2 b2 in
    record {
      plane = settled_next (sm m) c.requires.projectable.0 (distance c.ranges.second_limit c.requires.projectable.1) c.loop-t.t c.loop-t.invariant.plane aparts togethers rests c.settled_stage.ensures.own_after;
      differences = held;
      bands = bands;
      aparts1 = a1;
      togethers1 = b1;
      aparts2 = a2;
      togethers2 = b2;
      aparts = aparts;
      togethers = togethers;
      rests = rests;
    }

pub returns : goal.returns
returns c =
    let a = c.args in
    let l = c.loop-t.auto in
    record {
      own_after = all_projected (sides a.given a.second_limit a.least a.most a.own.now a.guide.now) c.requires.projectable.0 c.loop-t.t (omega (arith, c.loop-t-test.false)) c.loop-t.invariant.plane
          ∙ (λ j. with_projected a.given (back c.ranges.second_limit j) (back c.ranges.least j) (back c.ranges.most j) a.own.now a.guide.now);
      as_long = (l.differences, l.band, l.apart1, l.together1, l.apart2, l.together2, l.apart, l.together, l.rests);
      as_long_2 = (l.low, l.high, l.parts, l.minus, l.plus);
    }
