-- `working_plane::observe` meets its contract: after i turns, i rows are put.
use mathlib.Core.Path.{sym, ap}
use Prim.Native.Nat.{ℕ, ◌+◌, ◌*◌, ◌<◌}
use native.Mathlib.Omega.{arith}
use lib.IntN.{ℤ}
use lib.ListN.{length}
use Rattle.planes.specs.Places.{place}
use Rattle.planes.specs.Lists.{sample}
use Rattle.planes.proofs.Places.{row-place, put_no_row, put-row}
use Rattle.working_plane.proofs.observe.Goals as goal
use Rattle.working_plane.proofs.observe.Goals.{In-loop-i, Start}

-- where it is put, and what
abbrev At : goal.Start → ℕ → ℕ
At s = place s.args.places.from s.args.places.down s.args.places.columns

abbrev Row : goal.Start → ℕ → ℤ
Row s = λ k. sample s.args.mosaic.now (At s k)

pub loop-i-init : goal.loop-i-init
loop-i-init c = let s = (goal.at.loop-i-init c).Start in put_no_row c.args.work.now c.args.places.columns (At s) (Row s)

-- row i's samples stand in the mosaic
reach : (c : goal.In-loop-i) (k : ℕ)
    → k < c.args.places.columns → c.args.places.from + c.loop-i.i * c.args.places.down + k * 2 < length c.args.mosaic.now
reach c k b = c.requires.0.inside c.loop-i.i k c.loop-i-test.true b

pub overflow_mul-i : goal.overflow_mul-i
overflow_mul-i c = let r = reach (goal.at.overflow_mul-i c).In-loop-i 0 c.requires.0.some in record { fits = omega arith }

pub overflow_add-places : goal.overflow_add-places
overflow_add-places c = let r = reach (goal.at.overflow_add-places c).In-loop-i 0 c.requires.0.some in record { fits = omega arith }

pub observe_row-requires : goal.observe_row-requires
observe_row-requires c = (record { inside = reach (goal.at.observe_row-requires c).In-loop-i }, omega (arith, c.requires.1))

pub loop-i-preserved : goal.loop-i-preserved
loop-i-preserved c =
    let a = c.args in
    let i = c.loop-i.i in
    put-row a.work.now a.places.from a.places.down a.places.columns i (Row (goal.at.loop-i-preserved c).Start) (λ k. sample a.mosaic.now (a.places.from + i * a.places.down + 2 * k)) (λ k b. ap (sample a.mosaic.now) (sym (row-place a.places.from a.places.down a.places.columns i k b))) c.loop-i.invariant c.observe_row.ensures
