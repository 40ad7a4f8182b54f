-- `TwoDepth::run` meets its contract: after n turns, the work buffer holds the working plane after n rounds.
use mathlib.Core.Path.{◌≡◌, sym, ◌∙◌, ap, subst}
use mathlib.Core.Bool.{true}
use Prim.Native.Nat.{ℕ, ◌*◌, ◌≤◌}
use native.Mathlib.Nat.{mul-le-mul}
use native.Mathlib.Omega.{arith}
use lib.Dec.{T, leb, leb→le}
use lib.IntN.{ℤ, pos, nat_abs, ◌*ℤ◌}
use lib.ListN.{get_or, length}
use mir.Syntax.{w32}
use mir.Val.{to_z, of_z}
use mir.Facts.{to_z-of_z as back}
use Rattle.integers.proofs.Bounds.{read_is, read_bound, fits_abs, bounds, fits}
use Rattle.planes.specs.Planes.{plane_of}
use Rattle.filters.specs.Bank.{Distance}
use Rattle.projection.specs.Projection.{limits_of}
use Rattle.work_buffer.specs.Buffer.{with_plane, Workable}
use Rattle.working_plane.specs.Rounds.{least_kept, most_kept, working_plane}
use Rattle.working_plane.specs.Colours.{round_of, KeptPlane}
use Rattle.working_plane.proofs.Working.{colour_projectable, none_laid, more_laid, after_kept}
use Rattle.two_levels.proofs.Projected.{two_laid}
use Rattle.two_levels.proofs.TwoDepth.run.Goals as goal
use Rattle.two_levels.proofs.TwoDepth.run.Goals.{After-least_kept-least, After-most_kept-most, After-shared_slice_known-1, After-shared_slice_known-2-1, After-from-second_limit, At-loop-n, Start}

-- the working plane after n rounds
abbrev After : goal.Start → ℕ → ℕ → ℕ → ℤ
After s n = let a = s.args in working_plane n (round_of true a.colour a.top a.mosaic.now a.green.now) (plane_of (pos 0) a.colour.width a.work.now)

-- a work buffer has room for eight planes, and so for one
eighth : {n room : ℕ} → 8 * n ≤ room → n ≤ room
eighth h = omega (arith, h)

-- green's samples, the ceiling and the threshold have 16 bits
green_small : (c : goal.After-shared_slice_known-2-1) (k : ℕ) → get_or c.args.green.now k 0 ≤ 65535
green_small c k = omega (arith, c.type_inv.green k)

top_small : (s : goal.Start) → s.args.top ≤ 65535
top_small s = omega (arith, s.well_formed.1.0)

threshold_small : (s : goal.Start) → s.args.colour.threshold ≤ 65535
threshold_small s = omega (arith, s.well_formed.0)

room : (s : goal.Start) → s.args.colour.width * s.args.colour.height ≤ length s.args.work.now
room s = eighth s.requires.0.work

-- the threshold, as the machine reads it
read : (c : goal.After-from-second_limit) → to_z w32 (of_z w32 c.from-second_limit.result) ≡ pos c.args.colour.threshold
read c = read_is w32 c.from-second_limit.type_inv c.from-second_limit.ensures

small : (c : goal.After-from-second_limit) → nat_abs (to_z w32 (of_z w32 c.from-second_limit.result)) ≤ 65535
small c = read_bound w32 c.from-second_limit.ensures (omega arith)

pub overflow_mul-second_limit : goal.overflow_mul-second_limit
overflow_mul-second_limit c = let b = small c in fits (search bounds depth 14) tt

-- found without an answer too; it stands here, so that a shorter ring is refused at this fact
pub invariant_of-kept-clause-band_room : goal.invariant_of-kept-clause-band_room
invariant_of-kept-clause-band_room c = omega arith

pub loop-n-init : goal.loop-n-init
loop-n-init c =
    let a = c.args in
    none_laid true a.colour a.top a.mosaic.now a.green.now a.work.now (room (goal.at.loop-n-init c).Start)

kept : {n a b : ℕ} → a ≡ b → n ≤ b → n ≤ a
kept {n} e = subst (λ (x : ℕ). n ≤ x) (sym e)

-- what a round needs is there
workable : (l : goal.At-loop-n) → let a = l.args in Workable a.colour.width a.colour.height a.mosaic.now a.green.now (length l.loop-n.work)
workable l = let a = l.args in subst (Workable a.colour.width a.colour.height a.mosaic.now a.green.now) (sym l.loop-n.auto.work) l.requires.0

plane-kept : (l : goal.At-loop-n) → let a = l.args in a.colour.width * a.colour.height ≤ length a.work.now → a.top ≤ 65535 → KeptPlane l.loop-n.work (a.colour.width * a.colour.height)
plane-kept l fits top =
    let a = l.args in
    after_kept true a.colour a.top a.mosaic.now a.green.now a.work.now fits l.loop-n.n l.loop-n.invariant l.requires.3 top (λ k. omega (arith, l.type_inv.mosaic k))

-- the second limit, as the machine reads it
second_limit : (c : goal.After-from-second_limit) → to_z w32 (of_z w32 (pos 256 *ℤ to_z w32 (of_z w32 c.from-second_limit.result))) ≡ (limits_of c.args.colour.threshold).second
unfolding limits_of
second_limit c = back (overflow_mul-second_limit c) ∙ ap (λ (z : ℤ). pos 256 *ℤ z) (read c)

-- and the ends of what is kept
least_is : (c : goal.After-least_kept-least) → to_z w32 (of_z w32 c.least_kept-least.result) ≡ least_kept c.args.top
least_is c = read_is w32 c.least_kept-least.type_inv c.least_kept-least.ensures

most_is : (c : goal.After-most_kept-most) → to_z w32 (of_z w32 c.most_kept-most.result) ≡ most_kept c.args.top
most_is c = read_is w32 c.most_kept-most.type_inv c.most_kept-most.ensures

-- as many times the threshold, up to 256, as a limit
times_distance : (n : ℕ) → T (leb n 256) → (c : goal.After-from-second_limit) → Distance (to_z w32 (of_z w32 (pos n *ℤ to_z w32 (of_z w32 c.from-second_limit.result))))
times_distance n few c =
    subst Distance (sym reads) (record { sign = tt; small = omega (arith, product) })
  where
    threshold : ℕ
    threshold = c.args.colour.threshold

    product : n * threshold ≤ 256 * 65535
    product = let small : threshold ≤ 65535 = omega (arith, c.well_formed.0) in mul-le-mul (leb→le n 256 few) small

    reads : to_z w32 (of_z w32 (pos n *ℤ to_z w32 (of_z w32 c.from-second_limit.result))) ≡ pos (n * threshold)
    reads = ap (λ (z : ℤ). to_z w32 (of_z w32 (pos n *ℤ z))) (read c) ∙ back (fits_abs w32 (pos (n * threshold)) (omega (arith, product)))

pub project-requires : goal.project-requires
project-requires c =
    let l = (goal.at.project-requires c).At-loop-n in
    let s = (goal.at.project-requires c).Start in
    let a = c.args in (
      colour_projectable a.colour a.mosaic.now a.green.now c.loop-n.work c.given_of-given.ensures (threshold_small s) (workable l) (plane-kept l (room s) (top_small s)) (green_small (goal.at.project-requires c).After-shared_slice_known-2-1),
      times_distance _ tt (goal.at.project-requires c).After-from-second_limit,
    )

pub put_observed-requires : goal.put_observed-requires
put_observed-requires c =
    let l = (goal.at.put_observed-requires c).At-loop-n in
    let u = workable l in
    record { sizes = (u.sizes, c.requires.1, c.requires.2); mosaic_len = (u.samples, kept c.project.auto.own (eighth u.work)) }

pub loop-n-preserved : goal.loop-n-preserved
loop-n-preserved c =
    let l = (goal.at.loop-n-preserved c).At-loop-n in
    let a = c.args in
    more_laid true a.colour a.top a.mosaic.now a.green.now a.work.now (room (goal.at.loop-n-preserved c).Start) c.loop-n.n c.loop-n.invariant
    (two_laid a.colour a.top a.mosaic.now a.green.now c.loop-n.work c.given_of-given.ensures (eighth (workable l).work) (second_limit (goal.at.loop-n-preserved c).After-from-second_limit) (least_is (goal.at.loop-n-preserved c).After-least_kept-least) (most_is (goal.at.loop-n-preserved c).After-most_kept-most) c.project.ensures c.put_observed.ensures)

pub returns : goal.returns
returns c =
    let a = c.args in
    let all : c.loop-n.n ≡ a.rounds = omega arith in
    c.loop-n.invariant ∙ ap (λ (n : ℕ). with_plane a.colour.width a.colour.height (After (goal.at.returns c).Start n) a.work.now) all
