-- `OneDepth::run` meets its contract: after n turns, the work buffer holds the working plane after n rounds.
use mathlib.Core.Path.{◌≡◌, sym, subst}
use mathlib.Core.Bool.{false}
use Prim.Native.Nat.{ℕ, ◌*◌, ◌≤◌}
use native.Mathlib.Omega.{arith}
use lib.IntN.{ℤ, pos, nat_abs}
use lib.ListN.{length}
use mir.Syntax.{w32}
use mir.Val.{to_z, of_z}
use Rattle.integers.proofs.Bounds.{abs_neg, read_is, read_bound, bounds}
use Rattle.planes.specs.Planes.{plane_of}
use Rattle.filters.proofs.Quotients.{ends}
use Rattle.work_buffer.specs.Buffer.{Workable}
use Rattle.working_plane.specs.Rounds.{least_kept, most_kept, working_plane}
use Rattle.working_plane.specs.Colours.{round_of, KeptPlane}
use Rattle.working_plane.proofs.Working.{colour_projectable, none_laid, more_laid, after_kept}
use Rattle.one_level.proofs.Projected.{one_laid}
use Rattle.one_level.proofs.OneDepth.run.Goals as goal
use Rattle.one_level.proofs.OneDepth.run.Goals.{At-loop-n, Start}

-- the working plane after n rounds
abbrev After : goal.Start → ℕ → ℕ → ℕ → ℤ
After s n = let a = s.args in working_plane n (round_of false a.colour a.top a.mosaic.now a.green.now) (plane_of (pos 0) a.colour.width a.work.now)

-- it has room
room : (s : goal.Start) → s.args.colour.width * s.args.colour.height ≤ length s.args.work.now
room s = omega (arith, s.requires.0.work)

pub loop-n-init : goal.loop-n-init
loop-n-init c =
    let a = c.args in
    none_laid false a.colour a.top a.mosaic.now a.green.now a.work.now (room (goal.at.loop-n-init c).Start)

-- what a round needs is there
workable : (l : goal.At-loop-n) → let a = l.args in Workable a.colour.width a.colour.height a.mosaic.now a.green.now (length l.loop-n.work)
workable l = let a = l.args in subst (Workable a.colour.width a.colour.height a.mosaic.now a.green.now) (sym l.loop-n.auto.work) l.requires.0

plane-kept : (l : goal.At-loop-n) → let a = l.args in KeptPlane l.loop-n.work (a.colour.width * a.colour.height)
plane-kept l =
    let a = l.args in
    after_kept false a.colour a.top a.mosaic.now a.green.now a.work.now (room l.before.before.before.before.before.before.before) l.loop-n.n l.loop-n.invariant l.requires.3 (omega arith) (λ k. omega (arith, l.type_inv.mosaic k))

-- the ends of what is kept, as the machine reads them
ends_are : (l : goal.At-loop-n)
    → (to_z w32 (of_z w32 l.least_kept-least.result) ≡ least_kept l.args.top) × (to_z w32 (of_z w32 l.most_kept-most.result) ≡ most_kept l.args.top)
ends_are l = (read_is w32 l.least_kept-least.type_inv l.least_kept-least.ensures, read_is w32 l.most_kept-most.type_inv l.most_kept-most.ensures)

ends_small : (l : goal.At-loop-n) → (nat_abs (to_z w32 (of_z w32 l.least_kept-least.result)) ≤ 131070) × (nat_abs (to_z w32 (of_z w32 l.most_kept-most.result)) ≤ 131070)
unfolding least_kept most_kept
ends_small l =
    let top = l.args.top in
    (read_bound w32 l.least_kept-least.ensures (omega (arith, abs_neg (pos top))), read_bound w32 l.most_kept-most.ensures (omega arith))

pub project-requires : goal.project-requires
project-requires c =
    let l = (goal.at.project-requires c).At-loop-n in
    let a = c.args in
    colour_projectable a.colour a.mosaic.now a.green.now c.loop-n.work c.given_of-given.ensures (omega (arith, c.well_formed.0)) (workable l) (plane-kept l) (λ k. omega (arith, c.type_inv.green k))

-- they are near to 0
pub invariant_of-project : goal.invariant_of-project
invariant_of-project c =
    let e = ends_small (goal.at.invariant_of-project c).At-loop-n in
    record { near = ends (search bounds depth 4) (search bounds depth 4) tt tt }

pub loop-n-preserved : goal.loop-n-preserved
loop-n-preserved c =
    let l = (goal.at.loop-n-preserved c).At-loop-n in
    let a = c.args in
    more_laid false a.colour a.top a.mosaic.now a.green.now a.work.now (room (goal.at.loop-n-preserved c).Start) c.loop-n.n c.loop-n.invariant
    (one_laid a.colour a.top a.mosaic.now a.green.now c.loop-n.work c.given_of-given.ensures (omega (arith, (workable l).work)) (ends_are l).0 (ends_are l).1 c.project.ensures c.put_observed.ensures)
